use Rattle.std.proofs.Common.{◌≡◌, ◌-◌, ◌^◌, ◌==◌}
use Rattle.std.specs.Prelude.{find}
use Rattle.std.specs.List.{range_with_len}
use Rattle.query_forms.proofs.fraction.exponent_of.Given as goal

abbrev pub invariant-loop-exponent : goal.invariant-loop-exponent
invariant-loop-exponent l =
    (l.tens ≡ 10 ^ l.exponent) × (find (λ k. 10 ^ k == l.power) (range_with_len l.exponent (13 - l.exponent)) ≡ find (λ k. 10 ^ k == l.power) (range_with_len 0 13))
