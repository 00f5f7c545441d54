-- Powers of ten, and the last digits of a number.
use Rattle.std.proofs.Common.{◌≡◌, ℕ, zero, suc, ◌+◌, ◌-◌, ◌*◌, ◌/◌, ◌%◌, ◌^◌, ◌<◌, ◌≤◌, ◌==◌, List, [], ◌∷◌, ◌++◌, append_assoc, Bool, true, false, ◌&&◌, cond, nat_le, Some, None, refl, sym, ap, ◌∙◌, subst, arith}
use Rattle.std.specs.Prelude.{find}
use Rattle.std.specs.List.{range_with_len}
use Rattle.std.proofs.Math.Nat.{one-le-pow, pow-le-pow_right}
use Rattle.std.proofs.lemmas.Grind.{pow_more}
use Rattle.std.proofs.lemmas.Bool.{eqb-true, leb-true}
use Rattle.std.proofs.lemmas.Option.{same_Some}
use Rattle.query_json.specs.declared.file.Ratio.{Ratio}
use Rattle.query_forms.specs.Fractions.{decimal_places, last_digits}

pub ten_some : (k : ℕ) → 0 < 10 ^ k
ten_some k = let h = one-le-pow k 10 (omega arith) in omega (arith, h)

pub ten_at_most : (k : ℕ) → k ≤ 12 → 10 ^ k ≤ 1000000000000
ten_at_most k h = pow-le-pow_right {n = 10} (omega arith) {i = k} {j = 12} h

pub tens_fit : (tens k : ℕ) → tens ≡ 10 ^ k → k < 13 → tens * 10 < 2 ^ 64
tens_fit tens k e h = let m = ten_at_most k (omega (arith, h)) in omega (arith, e, m)

pub tens_up : (tens k : ℕ) → tens ≡ 10 ^ k → tens * 10 ≡ 10 ^ (k + 1)
tens_up tens k e = ap (λ (t : ℕ). t * 10) e ∙ sym (pow_more 10 k)

pub tens_down : (left : ℕ) → 0 < left → 10 ^ left / 10 ≡ 10 ^ (left - 1)
tens_down zero h = absurd (omega (arith, h))
tens_down (suc k) h =
    let same : suc k - 1 ≡ k = omega arith in
    let next : suc k ≡ k + 1 = omega arith in
    let more : 10 ^ suc k ≡ 10 ^ k * 10 = ap (λ (m : ℕ). 10 ^ m) next ∙ pow_more 10 k in
    rw (same, more) (by_ten (10 ^ k))
  where
    by_ten : (n : ℕ) → n * 10 / 10 ≡ n
    by_ten n = omega arith

-- the search for an exponent goes on behind one that is none
pub find_behind : (power k : ℕ) → k < 13 → (10 ^ k == power) ≡ false
    → find (λ j. 10 ^ j == power) (range_with_len k (13 - k)) ≡ find (λ j. 10 ^ j == power) (range_with_len (k + 1) (13 - (k + 1)))
find_behind power k h e =
    let more : 13 - k ≡ suc (13 - (k + 1)) = omega (arith, h) in
    rw more (ap (λ b. cond b (Some k) (find (λ j. 10 ^ j == power) (range_with_len (k + 1) (13 - (k + 1))))) e)

-- the first of the last digits, and those after it
pub digits_down : (left n : ℕ) → 0 < left → last_digits left n ≡ (48 + n / 10 ^ (left - 1) % 10) ∷ last_digits (left - 1) n
digits_down zero n h = absurd (omega (arith, h))
digits_down (suc k) n h = let same : suc k - 1 ≡ k = omega arith in rw same refl

find_passes : {X : Type 0} (p : X → Bool) (xs : List X) (x : X) → find p xs ≡ Some x → p x ≡ true
find_passes p [] x e = absurd cc
find_passes {X} p (y ∷ ys) x e = by_test (p y) refl (find_passes p ys x) e
  where
    by_test : (b : Bool) → p y ≡ b → (find p ys ≡ Some x → p x ≡ true) → cond b (Some y) (find p ys) ≡ Some x → p x ≡ true
    by_test true is later e = subst (λ (z : X). p z ≡ true) (same_Some y x e) is
    by_test false is later e = later e

find_within : (p : ℕ → Bool) (from n x : ℕ) → find p (range_with_len from n) ≡ Some x → x < from + n
find_within p from zero x e = absurd cc
find_within p from (suc n) x e = by_test (p from) (find_within p (from + 1) n x) e
  where
    by_test : (b : Bool) → (find p (range_with_len (from + 1) n) ≡ Some x → x < from + 1 + n) → cond b (Some from) (find p (range_with_len (from + 1) n)) ≡ Some x → x < from + suc n
    by_test true later e = let same = same_Some from x e in omega (arith, same)
    by_test false later e = let h = later e in omega (arith, h)

-- a fraction with a decimal text lies between 0 and 1, and its denominator is the power of ten of its few digits
pub places_are : (r : Ratio) (k : ℕ) → decimal_places r ≡ Some k → (10 ^ k ≡ r.den) × (1 ≤ r.num) × (r.num ≤ r.den) × (k < 13)
unfolding decimal_places
places_are r k e = by_tests (nat_le 1 r.num) (nat_le r.num r.den) refl refl e
  where
    by_tests : (a b : Bool) → nat_le 1 r.num ≡ a → nat_le r.num r.den ≡ b → cond (a && b) (find (λ j. 10 ^ j == r.den) (range_with_len 0 13)) None ≡ Some k
        → (10 ^ k ≡ r.den) × (1 ≤ r.num) × (r.num ≤ r.den) × (k < 13)
    by_tests true true x y e = (
      eqb-true (10 ^ k) r.den (find_passes (λ j. 10 ^ j == r.den) (range_with_len 0 13) k e),
      leb-true 1 r.num x,
      leb-true r.num r.den y,
      find_within (λ j. 10 ^ j == r.den) 0 13 k e,
    )
    by_tests true false x y e = absurd cc
    by_tests false true x y e = absurd cc
    by_tests false false x y e = absurd cc

differ : (a b : ℕ) (t : Bool) → (a == b) ≡ t → (a ≡ b → ⊥) → (a == b) ≡ false
differ a b true is other = absurd (other (eqb-true a b is))
differ a b false is other = is

pub exponent_behind : (power tens k : ℕ) → tens ≡ 10 ^ k → k < 13 → (tens ≡ power → ⊥)
    → find (λ j. 10 ^ j == power) (range_with_len (k + 1) (13 - (k + 1))) ≡ find (λ j. 10 ^ j == power) (range_with_len k (13 - k))
exponent_behind power tens k e h other = sym (find_behind power k h (differ (10 ^ k) power _ refl (λ same. other (e ∙ same))))

pub tens_below : (tens left : ℕ) → tens ≡ 10 ^ left → 0 < left → tens / 10 ≡ 10 ^ (left - 1)
tens_below tens left e h = ap (λ (t : ℕ). t / 10) e ∙ tens_down left h

-- what a text gains by one digit, those to come lose
pub digits_pushed : (left n tens : ℕ) (before after whole : List ℕ) → tens ≡ 10 ^ (left - 1) → 0 < left
    → after ≡ before ++ (48 + n / tens % 10) ∷ [] → before ++ last_digits left n ≡ whole → after ++ last_digits (left - 1) n ≡ whole
digits_pushed left n tens before after whole e h pushed all =
    ap (λ s. s ++ last_digits (left - 1) n) pushed
    ∙ append_assoc before ((48 + n / tens % 10) ∷ []) (last_digits (left - 1) n)
    ∙ ap (λ (t : ℕ). before ++ (48 + n / t % 10) ∷ last_digits (left - 1) n) e
    ∙ ap (λ s. before ++ s) (sym (digits_down left n h))
    ∙ all
