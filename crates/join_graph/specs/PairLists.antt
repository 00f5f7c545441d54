-- What holds of lists of pairs.
use Rattle.std.specs.Prelude.{◌≡◌, ◌↔◌, ℕ, ◌≤◌, List, Contains}
use Rattle.dpe_base.specs.declared.pair.Pair.{Pair}
use Rattle.dpe_base.specs.Sets.{union, size}
use Rattle.join_graph.specs.Graphs.{JoinGraph, Pairs}

-- the members of the list are the pairs of the graph
abbrev pub HasAllPairs : JoinGraph → List Pair → Type 0
HasAllPairs g pairs = (p : Pair) → Contains pairs p ↔ Pairs g p

-- a side of at least two relations is the union of a pair of the list
abbrev pub SideBuilt : List Pair → ℕ → Type 0
SideBuilt pairs side = 2 ≤ size side → (p : Pair) × Contains pairs p × (union p.a p.b ≡ side)
