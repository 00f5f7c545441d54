-- Lower bounds of the costs over a set, and least costs.
use Rattle.std.specs.Prelude.{◌≡◌, ℕ, ◌^◌, ◌≤◌, List, length}
use Rattle.dpe_base.specs.Queries.{JoinQuery, relations}
use Rattle.join_graph.specs.Graphs.{Connected, graph_of}
use Rattle.join_tree.specs.Trees.{JoinTree, Legal, set_of, cost}
use Rattle.cert_check.specs.Certificates.{bound_of}

-- no legal tree over s costs less than c
abbrev pub IsLowerBound : ℕ → JoinQuery → ℕ → ℕ → Type 0
IsLowerBound model q s c = (t : JoinTree) → Legal model (graph_of q) t → set_of t ≡ s → c ≤ cost model q t

-- c is the cost of a legal tree over s, and none costs less
pub record IsLeastCost (model : ℕ) (q : JoinQuery) (s c : ℕ) : Type 0 where
  pub some : (t : JoinTree) × Legal model (graph_of q) t × (set_of t ≡ s) × (cost model q t ≡ c)
  pub least : IsLowerBound model q s c

-- the bounds are the least costs: of each connected set that of a legal tree over it
abbrev pub AreLeastCosts : ℕ → JoinQuery → List ℕ → Type 0
AreLeastCosts model q bounds =
    (length bounds ≡ 2 ^ relations q) × ((s : ℕ) → Connected (graph_of q) s → IsLeastCost model q s (bound_of bounds s))
