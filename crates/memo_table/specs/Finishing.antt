-- The words at the end.
use Rattle.std.specs.Prelude.{◌≡◌, ℕ, ◌+◌, ◌^◌, ◌<◌, ◌≤◌, ◌↔◌, ◌⊎◌, List, Contains, length, slice_index_or}
use mathlib.Core.Option.{some}
use lib.ListN.{get_elem?}
use Rattle.dpe_base.specs.declared.TheConstants.{EMPTY}

-- a word for each set, by the sets' numbers, and how many numbers were drawn
pub record FinalWords : Type 0 where
  pub row : List ℕ
  pub drawn : ℕ

-- the least bound of the set, or EMPTY, exactly where the set has none
pub record IsLeastBound (bounds : List (ℕ × ℕ)) (s w : ℕ) : Type 0 where
  pub none : (w ≡ EMPTY) ↔ ((b : ℕ) → Contains bounds (s, b) → ⊥)
  pub some : (b : ℕ) → Contains bounds (s, b) → Contains bounds (s, w) × (w ≤ b)

-- an empty word for each set of n relations
pub record AreEmpty (n : ℕ) (row : List ℕ) : Type 0 where
  pub sized : length row ≡ 2 ^ n
  pub each : (s : ℕ) → s < length row → slice_index_or row s EMPTY ≡ EMPTY

-- the row has the word of each of its sets, before which the counter stands among the words
abbrev pub AreCopied : List ℕ → List ℕ → Type 0
AreCopied words row = (s : ℕ) → s < length row → get_elem? words (s + 1) ≡ some (slice_index_or row s EMPTY)

-- the row has the words, maybe without those of the sets with P
abbrev pub AreCopiedBut : (ℕ → Type 0) → List ℕ → List ℕ → Type 0
AreCopiedBut P words row = (s : ℕ) → s < length row → (get_elem? words (s + 1) ≡ some (slice_index_or row s EMPTY)) ⊎ P s
