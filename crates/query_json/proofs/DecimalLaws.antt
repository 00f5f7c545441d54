-- Reading the digits behind a point one after the other, as a loop does.
use Rattle.std.proofs.Common.{◌≡◌, ◌∙◌, ◌&&◌, ◌^◌, ◌*◌, ◌+◌, ◌-◌, ◌<◌, ◌≤◌, ℕ, List, ◌∷◌, length, drop, get_or, true, refl, sym, ap, arith, lit≤}
use Rattle.std.proofs.lemmas.Bool.{and_parts, leb-true, le-ltb, lt-ltb}
use Rattle.std.proofs.lemmas.List.{drop_more}
use Rattle.std.proofs.Common.{add-one}
use Rattle.std.proofs.Math.Nat.{pow-le-pow_right, pow-succ'}
use Rattle.std.specs.Char.{digit_value, is_ascii_digit}
use Rattle.std.specs.List.{list_all}
use Rattle.std.specs.Str.Parse.{digits_value, digits_value_after}
use Rattle.query_json.specs.declared.TheConstants.{DECIMALS_MAX}

-- the digits up to a place are in the two numbers, and the others are still to come
pub record IsReadTo (first : ℕ) (decimals : List ℕ) (i num den : ℕ) : Type 0 where
  pub worth : digits_value_after 10 num (drop i decimals) ≡ digits_value 10 (first ∷ decimals)
  pub tens : den ≡ 10 ^ i
  pub below : num < 10 * den
  pub digits : list_all is_ascii_digit (drop i decimals) ≡ true

pub digit_is : (c : ℕ) → is_ascii_digit c ≡ true → (48 ≤ c) × (c ≤ 57) × (digit_value c ≡ c - 48)
digit_is c is =
    let both = and_parts _ _ is in
    let low : 48 ≤ c = leb-true 48 c both.0 in
    let high : c ≤ 57 = leb-true c 57 both.1 in
    (low, high, rw (le-ltb c 48 low, lt-ltb c 58 (omega arith)) refl)

-- the digit at a place
pub digit_here : (decimals : List ℕ) (i d : ℕ) → i < length decimals → d ≡ get_or decimals i d
    → list_all is_ascii_digit (drop i decimals) ≡ true → (is_ascii_digit d ≡ true) × (list_all is_ascii_digit (drop (i + 1) decimals) ≡ true)
digit_here decimals i d lt is all =
    let here : (is_ascii_digit (get_or decimals i d) && list_all is_ascii_digit (drop (i + 1) decimals)) ≡ true =
    sym (ap (list_all is_ascii_digit) (drop_more decimals i d lt)) ∙ all in
    let both = and_parts _ _ here in
    (ap is_ascii_digit is ∙ both.0, both.1)

pub few_tens : (i : ℕ) → i ≤ 12 → 10 ^ i ≤ 10 ^ 12
few_tens i few = pow-le-pow_right {n = 10} (lit≤ tt) few

behind_zero : (a b : ℕ) → a ≡ b → b ≡ 0 * 10 + a
behind_zero a b e = omega (arith, e)

ten_more : (i : ℕ) → 10 ^ (i + 1) ≡ 10 * 10 ^ i
ten_more i = ap (λ (k : ℕ). 10 ^ k) (add-one i) ∙ pow-succ' 10 i

pub none_read : (first : ℕ) (decimals : List ℕ) → is_ascii_digit first ≡ true → list_all is_ascii_digit decimals ≡ true
    → IsReadTo first decimals 0 (first - 48) 1
none_read first decimals is all =
    let d = digit_is first is in
    record {
      worth = ap (λ n. digits_value_after 10 n decimals) (behind_zero (digit_value first) (first - 48) d.2);
      tens = refl;
      below = (let h = d.1 in omega arith);
      digits = all;
    }

pub one_read : (first : ℕ) (decimals : List ℕ) (i num den d : ℕ) → i < length decimals → d ≡ get_or decimals i d
    → IsReadTo first decimals i num den → IsReadTo first decimals (i + 1) (num * 10 + (d - 48)) (10 * den)
one_read first decimals i num den d lt is h =
    let here = digit_here decimals i d lt is h.digits in
    let digit = digit_is d here.0 in
    let next = get_or decimals i d in
    let step : digits_value_after 10 (num * 10 + digit_value next) (drop (i + 1) decimals) ≡ digits_value 10 (first ∷ decimals) =
    sym (ap (digits_value_after 10 num) (drop_more decimals i d lt)) ∙ h.worth in
    record {
      worth = ap (λ n. digits_value_after 10 (num * 10 + n) (drop (i + 1) decimals)) (sym digit.2 ∙ ap digit_value is) ∙ step;
      tens = ap (λ n. 10 * n) h.tens ∙ sym (ten_more i);
      below = (let b = h.below in let high = digit.1 in omega arith);
      digits = here.1;
    }

-- no more than twelve digits are read, so that all fits
pub few_read : (first : ℕ) (decimals : List ℕ) (i num den : ℕ) → i < length decimals → length decimals ≤ DECIMALS_MAX
    → IsReadTo first decimals i num den → (den ≤ 10 ^ 12) × (num < 10 * 10 ^ 12)
few_read first decimals i num den lt few h =
    let t : den ≤ 10 ^ 12 = rw h.tens (few_tens i (omega arith)) in
    (t, (let b = h.below in omega arith))
