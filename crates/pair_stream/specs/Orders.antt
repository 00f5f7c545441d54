-- Lists of pairs that are complete, and lists whose pairs stand after the pairs that build their sides.
use Rattle.std.specs.Prelude.{◌≡◌, ◌≢◌, ℕ, ◌<◌, ◌⊎◌, List, length, Contains, slice_index_or}
use Rattle.std.specs.List.{AllPairs}
use Rattle.dpe_base.specs.declared.pair.Pair.{Pair}
use Rattle.dpe_base.specs.Sets.{union}
use Rattle.join_graph.specs.Graphs.{JoinGraph}
use Rattle.join_graph.specs.PairLists.{HasAllPairs, SideBuilt}

-- p stands at place k of the list
abbrev pub StandsAt : List Pair → ℕ → Pair → Type 0
StandsAt pairs k p = (k < length pairs) × (slice_index_or pairs k p ≡ p)

-- no pair stands twice
abbrev pub Once : List Pair → Type 0
Once pairs = AllPairs (λ p q. p ≢ q) pairs

-- the union of p is a side of q
abbrev pub BuildsSide : Pair → Pair → Type 0
BuildsSide p q = (union p.a p.b ≡ q.a) ⊎ (union p.a p.b ≡ q.b)

-- no pair stands twice, each stands after those that build its sides, and some pair builds each side
pub record Ordered (pairs : List Pair) : Type 0 where
  pub once : Once pairs
  pub before : (j k : ℕ) (p q : Pair) → StandsAt pairs j p → StandsAt pairs k q → BuildsSide p q → j < k
  pub sides : (p : Pair) → Contains pairs p → SideBuilt pairs p.a × SideBuilt pairs p.b

-- the members are the pairs of the graph, each at one place
pub record Complete (g : JoinGraph) (pairs : List Pair) : Type 0 where
  pub members : HasAllPairs g pairs
  pub once : Once pairs
