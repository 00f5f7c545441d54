-- Certificates of optimality: a tree, and for each set of relations a number, which no tree over the set undercuts.
use Rattle.std.specs.Prelude.{◌≡◌, ℕ, ◌+◌, ◌^◌, ◌<◌, ◌≤◌, List, length, slice_index}
use Rattle.dpe_base.specs.declared.pair.Pair.{Pair}
use Rattle.dpe_base.specs.Queries.{JoinQuery, relations}
use Rattle.dpe_base.specs.Sets.{union, single, full}
use Rattle.join_graph.specs.Graphs.{Pairs, graph_of}
use Rattle.card_scaled.specs.Cards.{rows}
use Rattle.cost_model.specs.Costs.{operators, join_cost}
use Rattle.join_tree.specs.Trees.{JoinTree, Legal, set_of, cost}

-- the bound of a set, which stands at the set's number
abbrev pub bound_of : List ℕ → ℕ → ℕ
bound_of bounds s = slice_index bounds s

-- no operator joins a on the left and b on the right for less than the bound of both together
abbrev pub JoinBounded : ℕ → JoinQuery → List ℕ → ℕ → ℕ → Type 0
JoinBounded model q bounds a b =
    (op : ℕ) → op < operators model
    → bound_of bounds (union a b) ≤ bound_of bounds a + bound_of bounds b + join_cost model op (rows q a) (rows q b) (rows q (union a b))

-- the same of the two sets in either order
abbrev pub PairBounded : ℕ → JoinQuery → List ℕ → Pair → Type 0
PairBounded model q bounds p = JoinBounded model q bounds p.a p.b × JoinBounded model q bounds p.b p.a

-- the bounds show that the tree has the least cost of all trees over all relations
pub record IsCertificate (model : ℕ) (q : JoinQuery) (t : JoinTree) (bounds : List ℕ) : Type 0 where
  -- there is a bound for each set, and a relation alone has 0
  pub sized : length bounds ≡ 2 ^ relations q
  pub alone : (r : ℕ) → r < relations q → bound_of bounds (single r) ≡ 0
  -- no join of a pair costs less than the bound of its union
  pub bounded : (p : Pair) → Pairs (graph_of q) p → PairBounded model q bounds p
  -- the tree is legal, over all relations, and costs no more than their bound
  pub legal : Legal model (graph_of q) t
  pub over : set_of t ≡ full (relations q)
  pub least : cost model q t ≤ bound_of bounds (full (relations q))
