-- The pairs that have a small side.
use Rattle.std.specs.Prelude.{ℕ, ◌≤◌, ◌⊎◌, ◌↔◌, Bool, ◌||◌, nat_le, List, Contains}
use Rattle.std.specs.List.{filter}
use Rattle.dpe_base.specs.declared.pair.Pair.{Pair}
use Rattle.dpe_base.specs.Sets.{size}
use Rattle.join_graph.specs.Graphs.{JoinGraph, Pairs}
use Rattle.pair_stream.specs.Orders.{Once}

-- a side of the pair has at most that many relations
abbrev pub is_thin : ℕ → Pair → Bool
is_thin width p = nat_le (size p.a) width || nat_le (size p.b) width

-- the list without the pairs both of whose sides have more than that many relations
unfoldable pub thin : ℕ → List Pair → List Pair
thin width pairs = filter (is_thin width) pairs

-- the members are the pairs of the graph that have a side of at most that many relations
abbrev pub HasThinPairs : JoinGraph → ℕ → List Pair → Type 0
HasThinPairs g width pairs = (p : Pair) → Contains pairs p ↔ (Pairs g p × ((size p.a ≤ width) ⊎ (size p.b ≤ width)))

-- the members are these pairs, each at one place
pub record IsThinList (g : JoinGraph) (width : ℕ) (pairs : List Pair) : Type 0 where
  pub members : HasThinPairs g width pairs
  pub once : Once pairs
