-- Scaled numbers round up to the least whole number, and keep the top digits.
use Rattle.std.proofs.Common.{◌≡◌, ◌↔◌, ℕ, pos, negsuc, suc, ◌+◌, ◌-◌, ◌*◌, ◌/◌, ◌%◌, ◌^◌, ◌<◌, ◌≤◌, refl, ap, arith, add-mul}
use Rattle.std.proofs.lemmas.Nat.{pow_pos, div-add-mod', div_below}
use Rattle.std.proofs.Math.Nat.{mod-lt, mul-le-mul_right}
use Rattle.dpe_base.specs.Digits.{digits}
use Rattle.card_scaled.specs.Scaled.{norm, least_above}
use Rattle.card_scaled.specs.Laws.{KeepsTopDigits}
use Rattle.card_scaled.proofs.ScaledLaws.{norm_few, norm_many, norm-scale, norm_scaled}

-- the quotient that is rounded up is at most k exactly where k of the divisor are enough
ceil_least : (m d k : ℕ) → 0 < d → ((m + d - 1) / d ≤ k) ↔ (m ≤ k * d)
ceil_least m d k some = (
  λ l. let parts : (m + d - 1) / d * d + (m + d - 1) % d ≡ m + d - 1 = div-add-mod' (m + d - 1) d in
      let left : (m + d - 1) % d < d = mod-lt (m + d - 1) some in
      let most : (m + d - 1) / d * d ≤ k * d = mul-le-mul_right d l in
      omega arith,
  λ l. let one_more : (k + 1) * d ≡ k * d + d = next in
      let below : (m + d - 1) / d < k + 1 = div_below (m + d - 1) d (k + 1) some (omega arith) in
      omega arith,
)
  where
    next : (k + 1) * d ≡ k * d + d
    next = omega (arith, add-mul k 1 d)

pub least_above-whole : (m e : ℕ) → least_above m (pos e) ≡ m * 2 ^ e
unfolding least_above
least_above-whole m e = refl

pub least_above-part : (m e k : ℕ) → (least_above m (negsuc e) ≤ k) ↔ (m ≤ k * 2 ^ suc e)
unfolding least_above
least_above-part m e k = ceil_least m (2 ^ suc e) k (pow_pos (suc e))

-- a quotient, and the number above it
quotient_bounds : (x d q : ℕ) → 0 < d → q ≡ x / d → (q * d ≤ x) × (x < (q + 1) * d)
quotient_bounds x d q some e =
    let same : q * d ≡ x / d * d = ap (λ (n : ℕ). n * d) e in
    let parts : x / d * d + x % d ≡ x = div-add-mod' x d in
    let left : x % d < d = mod-lt x some in
    let next : (q + 1) * d ≡ q * d + d = omega (arith, add-mul q 1 d) in
    (omega arith, omega arith)

pub norm_keeps : (x : ℕ) → 1 ≤ x → x < 2 ^ 128 → KeepsTopDigits x
norm_keeps x some b =
    let bounds : (2 ^ 31 ≤ (norm x).mantissa) × ((norm x).mantissa < 2 ^ 32) = norm_scaled x some b in
    record {
      low = bounds.0;
      high = bounds.1;
      scale = norm-scale x;
      few = norm_few x;
      many_below = λ l. (quotient_bounds x (2 ^ (digits x - 32)) (norm x).mantissa (pow_pos (digits x - 32)) (norm_many x l)).0;
      many_above = λ l. (quotient_bounds x (2 ^ (digits x - 32)) (norm x).mantissa (pow_pos (digits x - 32)) (norm_many x l)).1;
    }
