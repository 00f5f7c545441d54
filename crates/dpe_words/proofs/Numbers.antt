-- The number that a text of digits writes.
use Rattle.std.proofs.Common.{◌≡◌, ◌∙◌, ℕ, ◌+◌, ◌-◌, ◌^◌, ◌<◌, ◌≤◌, true, false, List, length, Option, Some, None, Result, Ok, Err, refl, ap, arith, rules}
use Rattle.std.specs.Char.{is_ascii_digit}
use Rattle.std.specs.List.{list_all}
use Rattle.std.specs.Result.{result_ok}
use Rattle.std.specs.Str.Parse.{ParsesUnsigned, digits_value}
use Rattle.std.proofs.lemmas.Str.Parse.{IsNumeralModel, numerals_by_value, parse_digits}
use Rattle.std.proofs.lemmas.Bool.{le-leb, lt-leb}
use Rattle.std.proofs.lemmas.Bool.Decides.{nat_tests}
use Rattle.dpe_words.specs.Values.{from_to, number_in, value_or, written_number}
use Rattle.clap.specs.Words.{Text}

decimal_numerals : IsNumeralModel (λ ds. list_all is_ascii_digit ds ≡ true) (digits_value 10)
decimal_numerals = numerals_by_value _ (search rules)

at_most : (x high : ℕ) → x ≤ high → Some x ≡ from_to 0 high (Some x)
at_most x high h = grind (arith, nat_tests)

beyond : (x high : ℕ) → (x ≤ high → ⊥) → None ≡ from_to 0 high (Some x)
beyond x high h = grind (arith, nat_tests)

pub parsed : {E : Type 0} (t : List ℕ) (r : Result ℕ E) → ParsesUnsigned 64 10 t r → list_all is_ascii_digit t ≡ true → 1 ≤ length t → length t ≤ 20 → result_ok r ≡ from_to 0 (2 ^ 64 - 1) (written_number t)
parsed {E} t (Ok x) h digits long short =
    let p = parse_digits decimal_numerals {E = E} 64 t (Ok x) h digits in
    rw (le-leb 1 (length t) long, le-leb (length t) 20 short, digits) (ap Some p.1 ∙ at_most (digits_value 10 t) (2 ^ 64 - 1) (omega (arith, p.0.1)))
parsed {E} t (Err e) h digits long short =
    let p = parse_digits decimal_numerals {E = E} 64 t (Err e) h digits in
    rw (le-leb 1 (length t) long, le-leb (length t) 20 short, digits) (beyond (digits_value 10 t) (2 ^ 64 - 1) (λ few. p (long, omega arith)))

pub too_short : (t : List ℕ) → length t ≡ 0 → written_number t ≡ None
too_short t e = rw e refl

pub too_long : (t : List ℕ) → 20 + 1 ≤ length t → written_number t ≡ None
too_long t e = rw (le-leb 1 (length t) (omega arith), lt-leb (length t) 20 (omega arith)) refl

pub no_digits : (t : List ℕ) → list_all is_ascii_digit t ≡ false → written_number t ≡ None
no_digits t e = grind (arith, nat_tests)

-- a range within a wider one
pub narrowed : (o : Option ℕ) (low high : ℕ) → high < 2 ^ 64 → from_to low high (from_to 0 (2 ^ 64 - 1) o) ≡ from_to low high o
narrowed None low high h = refl
narrowed (Some n) low high h = grind (arith, nat_tests)

-- what a range lets through lies in it
from_range : (low high n : ℕ) (o : Option ℕ) → Some n ≡ from_to low high o → (low ≤ n) × (n ≤ high)
from_range low high n None e = cc
from_range low high n (Some m) e = grind (arith, nat_tests)

-- and so does a default that lies in it
pub in_range : (low high default n : ℕ) (t : Option Text) → low ≤ default → default ≤ high → Some n ≡ value_or default (number_in low high) t → (low ≤ n) × (n ≤ high)
in_range low high default n None l h e = grind arith
in_range low high default n (Some word) l h e = from_range low high n (written_number word) e
