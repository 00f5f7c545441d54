-- A plan together with the least cost of each set of relations.
use Rattle.std.specs.Prelude.{◌≡◌, ◌<◌, ◌^◌, ◌==◌, ℕ, List, length, slice_index, if◌then◌else◌}
use Rattle.dpe_base.specs.declared.TheConstants.{EMPTY}
use Rattle.dpe_base.specs.Queries.{JoinQuery, relations}
use Rattle.dpe_base.specs.Sets.{full}
use Rattle.join_graph.specs.Graphs.{Connected, graph_of}
use Rattle.cost_model.specs.Words.{word_cost}
use Rattle.join_tree.specs.Trees.{Best, Plan}
use Rattle.join_tree.specs.TreeOf.{tree_of}
use Rattle.planner.specs.declared.costs.CostedPlan.{CostedPlan}

-- the cost in a word, and 0 where there is none
abbrev pub cost_in : ℕ → ℕ
cost_in w = if w == EMPTY then 0 else word_cost w

-- each connected set has the cost in its best word, and each other set has 0
pub record AreBestCosts (model : ℕ) (q : JoinQuery) (costs : List ℕ) : Type 0 where
  pub sized : length costs ≡ 2 ^ relations q
  pub least : (s : ℕ) → Connected (graph_of q) s → (w : ℕ) × Best model q s w × (slice_index costs s ≡ word_cost w)
  pub others : (s : ℕ) → s < 2 ^ relations q → (Connected (graph_of q) s → ⊥) → slice_index costs s ≡ 0

-- the plan over all relations, and the costs
pub record IsCostedPlan (model : ℕ) (q : JoinQuery) (c : CostedPlan) : Type 0 where
  pub plan : Plan model q (full (relations q)) (tree_of c.tree)
  pub costs : AreBestCosts model q c.costs.items
