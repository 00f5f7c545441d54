-- The greatest relation of a set stands where the number has its top digit.
use Rattle.std.proofs.Common.{◌≡◌, ◌≢◌, ℕ, suc, ◌+◌, ◌-◌, ◌*◌, ◌/◌, ◌%◌, ◌^◌, ◌<◌, ◌≤◌, inl, inr, arith, ◌∙◌, ap, subst}
use Rattle.std.proofs.Math.Nat.{mul-le-mul_right, pow-suc}
use Rattle.std.specs.Int.{bit_at}
use Rattle.std.specs.Int.Count.{count_leading_zeros}
use Rattle.std.proofs.lemmas.Bool.{cases_lt}
use Rattle.std.proofs.lemmas.Nat.{leading_top, div-add-mod'}
use Rattle.std.proofs.lemmas.Nat.Bits.{bit_at_above}
use Rattle.dpe_base.specs.Sets.{member}
use Rattle.connected_sets.specs.Greatest.{IsGreatest}

quotient_one : (s p : ℕ) → p ≤ s → s < p + p → s / p ≡ 1
quotient_one s p l m =
    elim (cases_lt (s / p) 1) [
      | inl z ↦ absurd (omega (arith, div-add-mod' s p, zero_times (s / p) p (omega arith)))
      | inr g ↦ elim (cases_lt (s / p) 2) [
        | inl k ↦ omega arith
        | inr k ↦ absurd (omega (arith, div-add-mod' s p, mul-le-mul_right {m = 2} {n = s / p} p k, two_times p))
      ]
    ]
  where
    zero_times : (q p : ℕ) → q ≡ 0 → q * p ≡ 0
    zero_times q p e = ap (λ (k : ℕ). k * p) e ∙ omega arith

    two_times : (p : ℕ) → 2 * p ≡ p + p
    two_times p = omega arith

top_digit : (s j : ℕ) → 2 ^ j ≤ s → s < 2 ^ suc j → bit_at s j ≡ 1
top_digit s j l m = ap (λ (k : ℕ). k % 2) (quotient_one s (2 ^ j) l (omega (arith, pow-suc 2 j)))

pub greatest_by_zeros : (s : ℕ) → s < 2 ^ 32 → s ≢ 0 → IsGreatest s (31 - count_leading_zeros 32 s)
unfolding member
greatest_by_zeros s b ne =
    let t : (j : ℕ) × (count_leading_zeros 32 s + suc j ≡ 32) × (2 ^ j ≤ s) × (s < 2 ^ suc j) = leading_top 32 s (omega arith) b in
    let e : t.0 ≡ 31 - count_leading_zeros 32 s = omega (arith, t.1) in
    subst (λ (j : ℕ). (bit_at s j ≡ 1) × ((k : ℕ) → bit_at s k ≡ 1 → k ≤ j)) e
    (top_digit s t.0 t.2 t.3, λ k h. elim (cases_lt t.0 k) [ inl l ↦ absurd (omega (arith, bit_at_above s (suc t.0) k t.3 (omega (arith, l)), h)) | inr g ↦ g ])
