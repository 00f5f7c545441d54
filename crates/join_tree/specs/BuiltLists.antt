-- What a list of pairs whose sides are made of pairs offers to one who works through it.
use Rattle.std.specs.Prelude.{◌≡◌, ℕ, ◌^◌, ◌<◌, ◌≤◌, ◌⊎◌, List, Contains}
use Rattle.dpe_base.specs.declared.TheConstants.{N_MAX}
use Rattle.dpe_base.specs.declared.pair.Pair.{Pair}
use Rattle.dpe_base.specs.Queries.{JoinQuery, relations}
use Rattle.dpe_base.specs.Sets.{union, single, size}
use Rattle.join_tree.specs.Trees.{Made, IsEmptyOrMade, Least, LeastOfPair, leaf_word, pair_word}

-- the set is a relation alone, or the union of a pair of the list
abbrev pub IsBuilt : JoinQuery → List Pair → ℕ → Type 0
IsBuilt q pairs s =
    ((r : ℕ) × (r < relations q) × (s ≡ single r)) ⊎ ((p : Pair) × Contains pairs p × (union p.a p.b ≡ s))

-- the set has a least word, which is the least word of one of its pairs
pub record HasBestPair (model : ℕ) (q : JoinQuery) (pairs : List Pair) (s : ℕ) : Type 0 where
  pub word : ℕ
  pub least : Least model q pairs s word
  pub pair : Pair
  pub listed : Contains pairs pair
  pub over : union pair.a pair.b ≡ s
  pub of_pair : LeastOfPair model q pairs pair word

pub record IsWorkable (model : ℕ) (q : JoinQuery) (pairs : List Pair) : Type 0 where
  -- the union of a pair is a set of relations of q, and larger than its sides
  pub inside : (p : Pair) → Contains pairs p → (0 < union p.a p.b) × (union p.a p.b < 2 ^ relations q)
  pub sized : (p : Pair) → Contains pairs p → size (union p.a p.b) ≤ N_MAX
  pub smaller : (p : Pair) → Contains pairs p → (size p.a < size (union p.a p.b)) × (size p.b < size (union p.a p.b))
  -- what a pair gives on words of its sides is a word of its union, or EMPTY
  pub sound : (p : Pair) (first second : ℕ) → Contains pairs p → Made model q pairs p.a first → Made model q pairs p.b second → IsEmptyOrMade model q pairs (union p.a p.b) (pair_word model q p first second)
  -- the sides of a pair, and the sets that have a word, are built by the list
  pub sides : (p : Pair) → Contains pairs p → IsBuilt q pairs p.a × IsBuilt q pairs p.b
  pub built : (s w : ℕ) → Made model q pairs s w → IsBuilt q pairs s
  -- where the least words come from
  pub leaves : (r : ℕ) → r < relations q → Least model q pairs (single r) (leaf_word r)
  pub best_pair : (p : Pair) → Contains pairs p → HasBestPair model q pairs (union p.a p.b)
