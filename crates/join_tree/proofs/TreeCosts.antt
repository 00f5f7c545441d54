-- What a legal tree costs, and that its sets are sets of the graph's relations.
use Rattle.std.proofs.Common.{◌≡◌, ℕ, Option, Some, None, MatchOption, ◌+◌, ◌*◌, ◌^◌, ◌≤◌, ◌<◌, arith, subst}
use Rattle.dpe_base.specs.declared.TheConstants.{ROW_CAP, N_MAX, COST_LIMIT, SPAN}
use Rattle.dpe_base.specs.Queries.{JoinQuery, relations, IsQuery}
use Rattle.dpe_base.specs.Sets.{union, single, size}
use Rattle.dpe_base.proofs.SizeLaws.{size-union, size-single, size_full}
use Rattle.join_graph.specs.Graphs.{JoinGraph, Connected, graph_of}
use Rattle.card_scaled.specs.Cards.{rows}
use Rattle.card_scaled.proofs.CardLaws.{rows_bounds}
use Rattle.cost_model.specs.Costs.{operators, join_cost}
use Rattle.cost_model.specs.Words.{word}
use Rattle.cost_model.proofs.WordLaws.{word-below}
use Rattle.cost_model.proofs.CostLaws.{join_cost_below}
use Rattle.join_tree.specs.Trees.{JoinTree, leaf, join, set_of, cost, Legal, LeavesBelow}
use Rattle.join_tree.proofs.TreeLaws.{legal_connected, legal_leaves}

pub capped_cost : (model op l r o cost : ℕ) → cost ≡ join_cost model op l r o → l ≤ ROW_CAP → r ≤ ROW_CAP → o ≤ ROW_CAP → cost < 2 ^ 90
capped_cost model op l r o cost e a b c = rw e (join_cost_below model op l r o a b c)

-- each join costs less than 2 ^ 90, and a tree has one join less than it has relations
pub legal_cost : (model : ℕ) (q : JoinQuery) (t : JoinTree) → Legal model (graph_of q) t → cost model q t + 2 ^ 90 ≤ size (set_of t) * 2 ^ 90
legal_cost model q (leaf r) l = omega (arith, size-single r)
legal_cost model q (join op left right) l =
    omega (
      arith,
      legal_cost model q left l.1,
      legal_cost model q right l.2,
      size-union (set_of left) (set_of right) l.3,
      join_cost_below model op (rows q (set_of left)) (rows q (set_of right)) (rows q (union (set_of left) (set_of right))) (rows_bounds q (set_of left)).1 (rows_bounds q (set_of right)).1 (rows_bounds q (union (set_of left) (set_of right))).1,
    )

-- so its cost is below N_MAX * 2 ^ 90
pub legal_cost_small : (model : ℕ) (q : JoinQuery) (t : JoinTree) → IsQuery q → Legal model (graph_of q) t → cost model q t < N_MAX * 2 ^ 90
legal_cost_small model q t ok l =
    omega (arith, legal_cost model q t l, size_full (set_of t) (relations q) (legal_connected model (graph_of q) t l).within, ok.few)

-- ---- a legal join of two trees of the program

pub record IsLegalJoin (model : ℕ) (g : JoinGraph) (op : ℕ) (left right : JoinTree) : Type 0 where
  pub op_known : op < operators model
  pub left_leaves : LeavesBelow 32 left
  pub right_leaves : LeavesBelow 32 right
  pub left_connected : Connected g (set_of left)
  pub right_connected : Connected g (set_of right)
  pub left_legal : Legal model g left
  pub right_legal : Legal model g right

pub legal_join : (model : ℕ) (g : JoinGraph) (op : ℕ) (left right t : JoinTree) → g.n ≤ N_MAX → t ≡ join op left right → Legal model g t → IsLegalJoin model g op left right
legal_join model g op left right t few e l = parts (subst (Legal model g) e l)
  where
    parts : Legal model g (join op left right) → IsLegalJoin model g op left right
    parts m =
        record {
          op_known = m.0;
          left_leaves = legal_leaves model 32 g left (omega arith) m.1;
          right_leaves = legal_leaves model 32 g right (omega arith) m.2;
          left_connected = legal_connected model g left m.1;
          right_connected = legal_connected model g right m.2;
          left_legal = m.1;
          right_legal = m.2;
        }

-- the word of a leaf, from the word of no cost, the operator 3 and the set
pub leaf_answer : (o : Option ℕ) (cost left r : ℕ) → cost ≡ 0 → left ≡ single r → MatchOption o (COST_LIMIT ≤ cost) (λ w. (cost < COST_LIMIT) × (w ≡ word cost 3 left)) → MatchOption o (COST_LIMIT ≤ 0) (λ w. (0 < COST_LIMIT) × (w ≡ 3 * SPAN + single r))
leaf_answer None cost left r free same h = absurd (omega (arith, h))
leaf_answer (Some w) cost left r free same h = (omega arith, omega (arith, h.1, word-below cost 3 left (omega arith)))
