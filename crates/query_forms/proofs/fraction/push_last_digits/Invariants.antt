use Rattle.std.proofs.Common.{◌≡◌, ◌^◌, ◌++◌, string_bytes}
use Rattle.query_forms.specs.Fractions.{last_digits}
use Rattle.query_forms.proofs.fraction.push_last_digits.Given as goal

abbrev pub invariant-digits : goal.invariant-digits
invariant-digits l =
    (l.tens ≡ 10 ^ l.left) × (string_bytes l.out ++ last_digits l.left l.ratio.num ≡ string_bytes l.initial.out ++ last_digits l.places l.ratio.num)

abbrev pub decreases-digits : goal.decreases-digits
decreases-digits l = l.left
