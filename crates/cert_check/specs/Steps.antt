-- What the steps of a check find out. No public contract cites these: they stand here for the contracts of the steps.
use Rattle.std.specs.Prelude.{◌≡◌, ℕ, ◌<◌, ◌≤◌, ◌⊎◌, List, length, slice_index}
use Rattle.dpe_base.specs.Queries.{JoinQuery, relations}
use Rattle.dpe_base.specs.Sets.{Within, full}
use Rattle.join_graph.specs.Graphs.{Connected, graph_of}
use Rattle.card_scaled.specs.Cards.{rows}
use Rattle.join_tree.specs.Trees.{JoinTree, Legal, set_of, cost}
use Rattle.cert_check.specs.Certificates.{bound_of}

-- the rows of a connected set, and 0 of any other
abbrev pub IsKnownRows : JoinQuery → ℕ → ℕ → Type 0
IsKnownRows q s known =
    (Connected (graph_of q) s × (known ≡ rows q s)) ⊎ ((Connected (graph_of q) s → ⊥) × (known ≡ 0))

-- the set is connected, and these are its rows and its bound
pub record IsSide (q : JoinQuery) (bounds : List ℕ) (s known bound : ℕ) : Type 0 where
  pub connected : Connected (graph_of q) s
  pub rows_are : known ≡ rows q s
  pub bound_is : bound ≡ bound_of bounds s

-- the table has the rows of the query's connected sets below its length
abbrev pub AreKnownRows : JoinQuery → List ℕ → Type 0
AreKnownRows q table =
    (s : ℕ) → s < length table → Within s (full (relations q)) → IsKnownRows q s (slice_index table s)

-- the tree is legal, over all relations, and costs no more than their bound
abbrev pub IsBoundedTree : ℕ → JoinQuery → JoinTree → List ℕ → Type 0
IsBoundedTree model q t bounds =
    Legal model (graph_of q) t
    × (set_of t ≡ full (relations q))
    × (cost model q t ≤ bound_of bounds (full (relations q)))
