-- Each connected set has a best word and one plan.
use Rattle.join_tree.specs.Trees.{JoinTree, Plan}
use Rattle.std.proofs.Common.{ℕ, suc, arith, List, subst, ◌↔◌, ◌≡◌}
use Rattle.dpe_base.specs.declared.pair.Pair.{Pair}
use Rattle.dpe_base.specs.Queries.{JoinQuery, IsQuery}
use Rattle.join_graph.specs.Graphs.{Connected, graph_of}
use Rattle.join_graph.specs.PairLists.{HasAllPairs}
use Rattle.join_tree.specs.Trees.{Least, Best}
use Rattle.join_tree.proofs.TreeLaws.{legal_connected, connected_built, all_pairs_build}
use Rattle.join_tree.proofs.Substructure.{least_exists}
use Rattle.join_tree.proofs.BestLaws.{least_best, best_same, best_connected}
use Rattle.join_tree.proofs.OnePlan.{plan_same}
use Rattle.join_tree.proofs.PlanLaws.{plan_exists}
use Rattle.join_tree.proofs.AllPairs.{all_pairs}

-- a list of all pairs gives each connected set a least word, which is its best word
pub connected_best : (model : ℕ) (q : JoinQuery) (s : ℕ) → IsQuery q → Connected (graph_of q) s → (w : ℕ) × Best model q s w
connected_best model q s ok c =
    let list : (pairs : List Pair) × HasAllPairs (graph_of q) pairs = all_pairs q ok in
    let least : (w : ℕ) × Least model q list.0 s w =
    least_exists model q list.0 ok (all_pairs_build q list.0 ok list.1) (suc s) s (omega arith) (c, connected_built q list.0 ok list.1 s c) in
    (least.0, (least_best model q list.0 ok list.1 s least.0).0 least.1)

pub connected_sets_have_best_words : (model : ℕ) (q : JoinQuery) (s : ℕ) → IsQuery q → (Connected (graph_of q) s ↔ ((w : ℕ) × Best model q s w)) × ((v w : ℕ) → Best model q s v → Best model q s w → v ≡ w)
connected_sets_have_best_words model q s ok = ((connected_best model q s ok, λ b. best_connected model q s b.0 b.1), best_same model q s)

pub connected_sets_have_one_plan : (model : ℕ) (q : JoinQuery) (s : ℕ) → IsQuery q → (Connected (graph_of q) s ↔ ((t : JoinTree) × Plan model q s t)) × ((t u : JoinTree) → Plan model q s t → Plan model q s u → t ≡ u)
connected_sets_have_one_plan model q s ok = (
  (
    λ c. plan_exists model q s ok (λ x cx within. connected_best model q x ok cx) c,
    λ plan. subst (Connected (graph_of q)) plan.1.over (legal_connected model (graph_of q) plan.0 plan.1.legal),
  ),
  λ t u a b. plan_same model q s t u ok a b,
)
