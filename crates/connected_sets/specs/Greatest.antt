-- The greatest relation of a set.
use Rattle.std.specs.Prelude.{ℕ, ◌≤◌}
use Rattle.dpe_base.specs.Sets.{Has}

-- r is the greatest member of s
abbrev pub IsGreatest : ℕ → ℕ → Type 0
IsGreatest s r = Has s r × ((k : ℕ) → Has s k → k ≤ r)
