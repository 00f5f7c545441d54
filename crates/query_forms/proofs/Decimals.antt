-- A decimal text reads as the fraction that it was written for.
use Rattle.std.proofs.Common.{◌≡◌, ℕ, zero, suc, ◌+◌, ◌-◌, ◌*◌, ◌/◌, ◌%◌, ◌^◌, ◌<◌, ◌≤◌, ◌&&◌, List, ◌∷◌, length, Bool, true, cond, nat_le, Some, None, refl, sym, ap, ◌∙◌, subst, arith}
use Rattle.std.specs.List.{list_all}
use Rattle.std.specs.Char.{digit_value, is_ascii_digit}
use Rattle.std.specs.Str.Parse.{digits_value, digits_value_after}
use Rattle.std.proofs.Math.Arith.{mod-mul}
use Rattle.std.proofs.Math.Nat.{add-mul, div-lt_iff_lt-mul, mul_assoc, pow-succ'}
use Rattle.std.proofs.lemmas.Nat.{div-add-mod'}
use Rattle.std.proofs.lemmas.Bool.{le-leb, le-ltb, lt-ltb}
use Rattle.query_json.specs.declared.TheConstants.{DECIMALS_MAX}
use Rattle.query_json.specs.declared.file.Ratio.{Ratio}
use Rattle.query_json.specs.Decimals.{are_decimals, decimal_from, decimal_of, over_tens}
use Rattle.query_forms.specs.Fractions.{after_point, decimal_places, decimal_text, last_digits}
use Rattle.query_forms.proofs.Powers.{places_are, ten_some}

-- ---- one digit

digit_is : (x : ℕ) → x < 10 → digit_value (48 + x) ≡ x
digit_is x h = rw (le-ltb (48 + x) 48 (omega arith), lt-ltb (48 + x) 58 (omega (arith, h))) (behind x)
  where
    behind : (x : ℕ) → 48 + x - 48 ≡ x
    behind x = omega arith

is_digit : (x : ℕ) → x < 10 → is_ascii_digit (48 + x) ≡ true
is_digit x h = rw (le-leb 48 (48 + x) (omega arith), le-leb (48 + x) 57 (omega (arith, h))) refl

digit_below : (m : ℕ) → m % 10 < 10
digit_below m = omega arith

-- ---- several

pub length_digits : (k n : ℕ) → length (last_digits k n) ≡ k
length_digits zero n = refl
length_digits (suc k) n = ap suc (length_digits k n)

pub all_digits : (k n : ℕ) → list_all is_ascii_digit (last_digits k n) ≡ true
all_digits zero n = refl
all_digits (suc k) n = rw (is_digit (n / 10 ^ k % 10) (digit_below (n / 10 ^ k)), all_digits k n) refl

ten_more : (k : ℕ) → 10 ^ suc k ≡ 10 * 10 ^ k
ten_more k = pow-succ' 10 k

carried : (a x p r : ℕ) → (a * 10 + x) * p + r ≡ a * (10 * p) + (x * p + r)
carried a x p r =
    ap (λ (s : ℕ). s + r) (add-mul (a * 10) x p) ∙ ap (λ (s : ℕ). s + x * p + r) (mul_assoc a 10 p) ∙ regroup (a * (10 * p)) (x * p) r
  where
    regroup : (s t u : ℕ) → s + t + u ≡ s + (t + u)
    regroup s t u = omega arith

-- the digits add their number to what stands before them
pub digits_are : (k a n : ℕ) → digits_value_after 10 a (last_digits k n) ≡ a * 10 ^ k + n % 10 ^ k
digits_are zero a n = none_more a n
  where
    none_more : (a n : ℕ) → a ≡ a * 1 + n % 1
    none_more a n = omega arith
digits_are (suc k) a n =
    let x : ℕ = n / 10 ^ k % 10 in
    let p : ℕ = 10 ^ k in
    ap (λ (v : ℕ). digits_value_after 10 (a * 10 + v) (last_digits k n)) (digit_is x (digit_below (n / 10 ^ k)))
    ∙ digits_are k (a * 10 + x) n
    ∙ carried a x p (n % p)
    ∙ ap (λ (m : ℕ). a * (10 * p) + m) (sym (mod-mul n {m = 10} {c = p} (omega arith) (ten_some k)))
    ∙ ap (λ (m : ℕ). a * m + n % m) (sym (ten_more k))

-- ---- a whole text

div_by_more : (n p : ℕ) → 0 < p → n ≤ p → n / p ≤ 1
div_by_more n p some h = let few = (div-lt_iff_lt-mul {k = p} {x = n} {y = 2} some).1 (omega (arith, some, h)) in omega (arith, few)

abbrev ratio : ℕ → ℕ → Ratio
ratio n d = record { num = n; den = d }

-- all the digits without the point make the numerator
worth : (k n : ℕ) → n / 10 ^ k ≤ 1 → digits_value 10 ((48 + n / 10 ^ k) ∷ last_digits k n) ≡ n
worth k n h =
    ap (λ (v : ℕ). digits_value_after 10 v (last_digits k n)) (first_is (n / 10 ^ k) _ (digit_is (n / 10 ^ k) (omega (arith, h))))
    ∙ digits_are k (n / 10 ^ k) n
    ∙ div-add-mod' n (10 ^ k)
  where
    first_is : (q v : ℕ) → v ≡ q → 0 * 10 + v ≡ q
    first_is q v e = omega (arith, e)

three_true : (a b c : Bool) → a ≡ true → b ≡ true → c ≡ true → (a && b && c) ≡ true
three_true a b c x y z = rw (x, y, z) refl

few_decimals : (k n : ℕ) → 1 ≤ k → k ≤ 12 → are_decimals (last_digits k n) ≡ true
few_decimals k n some few =
    let ds : List ℕ = last_digits k n in
    let len : length ds ≡ k = length_digits k n in
    three_true (nat_le 1 (length ds)) (nat_le (length ds) DECIMALS_MAX) (list_all is_ascii_digit ds)
    (le-leb 1 (length ds) (omega (arith, len, some)))
    (le-leb (length ds) DECIMALS_MAX (omega (arith, len, few)))
    (all_digits k n)

behind_point : (k n first : ℕ) → k ≤ 12 → decimal_from first (after_point k n) ≡ Some (over_tens first (last_digits k n))
behind_point zero n first few = refl
behind_point (suc k) n first few =
    ap (λ b. cond b (Some (over_tens first (last_digits (suc k) n))) None) (few_decimals (suc k) n (omega arith) few)

by_first : (q : ℕ) (rest : List ℕ) → q ≤ 1 → decimal_of ((48 + q) ∷ rest) ≡ decimal_from (48 + q) rest
unfolding decimal_of
by_first zero rest h = refl
by_first (suc zero) rest h = refl
by_first (suc (suc q)) rest h = absurd (omega (arith, h))

text_reads : (k n : ℕ) → k ≤ 12 → n ≤ 10 ^ k → decimal_of (decimal_text k n) ≡ Some (ratio n (10 ^ k))
unfolding decimal_text
text_reads k n few most =
    let first = div_by_more n (10 ^ k) (ten_some k) most in
    by_first (n / 10 ^ k) (after_point k n) first
    ∙ behind_point k n (48 + n / 10 ^ k) few
    ∙ ap (λ (m : ℕ). Some (ratio m (10 ^ length (last_digits k n)))) (worth k n first)
    ∙ ap (λ (m : ℕ). Some (ratio n (10 ^ m))) (length_digits k n)

pub decimal_reads : (r : Ratio) (k : ℕ) → decimal_places r ≡ Some k → decimal_of (decimal_text k r.num) ≡ Some r
decimal_reads r k e =
    let p = places_are r k e in
    let few = p.3 in
    text_reads k r.num (omega (arith, few)) (subst (λ (d : ℕ). r.num ≤ d) (sym p.0) p.2) ∙ ap (λ (d : ℕ). Some (ratio r.num d)) p.0
