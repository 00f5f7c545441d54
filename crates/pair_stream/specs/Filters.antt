-- The pairs of a list that pass a test.
use Rattle.std.specs.Prelude.{◌≡◌, ℕ, Bool, List, [], refl}
use Rattle.std.specs.List.{filter}
use Rattle.dpe_base.specs.declared.pair.Pair.{Pair}

-- a list with no pair has none that passes
pub ended_filter : (passes : Pair → Bool) (pairs : List Pair) (probed total : ℕ) → (pairs ≡ []) × (probed ≡ total) → (filter passes pairs ≡ []) × (probed ≡ total)
ended_filter passes pairs probed total e = (rw e.0 refl, e.1)
