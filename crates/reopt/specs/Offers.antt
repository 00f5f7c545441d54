-- The words that are offered before the first round.
use Rattle.std.specs.Prelude.{◌≡◌, ℕ, ◌<◌, ◌⊎◌, List, Contains, slice_index_or}
use Rattle.dpe_base.specs.declared.TheConstants.{EMPTY}
use Rattle.dpe_base.specs.Sets.{Has}
use Rattle.dpe_engine.specs.Engines.{SeededPlan}

-- the words of the sets below `count` that haven't relation r stand in the memo, but for those that are EMPTY
pub record HasOffered (r : ℕ) (row : List ℕ) (before after : SeededPlan) (count : ℕ) : Type 0 where
  pub plan : after.plan ≡ before.plan
  pub offered : (s : ℕ) → 0 < s → s < count → (Has s r → ⊥)
      → (slice_index_or row s 0 ≡ EMPTY) ⊎ Contains after.words (s, slice_index_or row s 0)
