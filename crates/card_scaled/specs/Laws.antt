-- Scaled numbers round up to the least whole number, and keep the top digits.
use Rattle.std.specs.Prelude.{◌≡◌, ◌≤◌, ◌<◌, ◌+◌, ◌-◌, ◌*◌, ◌^◌, ◌-ℤ◌, ℕ, pos}
use Rattle.dpe_base.specs.Digits.{digits}
use Rattle.card_scaled.specs.Scaled.{norm}

-- the digits that are kept of x: 32 of them, all where there are no more, and otherwise the top ones
pub record KeepsTopDigits (x : ℕ) : Type 0 where
  pub low : 2 ^ 31 ≤ (norm x).mantissa
  pub high : (norm x).mantissa < 2 ^ 32
  pub scale : (norm x).scale ≡ pos (digits x) -ℤ pos 32
  pub few : digits x ≤ 32 → (norm x).mantissa ≡ x * 2 ^ (32 - digits x)
  pub many_below : 32 ≤ digits x → (norm x).mantissa * 2 ^ (digits x - 32) ≤ x
  pub many_above : 32 ≤ digits x → x < ((norm x).mantissa + 1) * 2 ^ (digits x - 32)
