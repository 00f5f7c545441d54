use Rattle.std.proofs.Common.{◌≡◌, ◌≢◌, ℕ, ◌∷◌, [], ◌<◌, ◌∙◌, ◌*◌, ◌+◌, arith, sym, subst, slice_index}
use Rattle.dpe_base.specs.declared.TheConstants.{EMPTY, SPAN}
use Rattle.dpe_base.specs.Queries.{JoinQuery, relations}
use Rattle.dpe_base.specs.Sets.{Has, Within, single}
use Rattle.dpe_base.proofs.SetLaws.{sets, same_set}
use Rattle.dpe_base.proofs.SizeLaws.{some_member}
use Rattle.join_graph.specs.Graphs.{Connected, graph_of}
use Rattle.join_graph.proofs.GraphLaws.{connected_single}
use Rattle.join_tree.specs.Trees.{Best}
use Rattle.join_tree.specs.Words.{HasBestWords}
use Rattle.join_tree.proofs.Roots.{best_leaf}
use Rattle.plan_report.proofs.tests.the_plan_of_one_relation_is_its_scan.Goals as goal

one_set : (x s : ℕ) → s ≡ single 0 → x ≢ 0 → Within x s → s ≡ x
one_set x s e some w =
    let k : (k : ℕ) × Has x k = some_member x some in
    same_set _ _ (λ r. grind (arith, sets, w r, w k.0 k.1, k.1))

-- the words of a query of one relation
leaf_words : (q : JoinQuery) (s : ℕ) → s ≡ single 0 → 0 < relations q → HasBestWords 0 q (EMPTY ∷ (3 * SPAN + 1) ∷ []) s
unfolding single
leaf_words q s e some x cx w =
    subst (λ u. Best 0 q u (slice_index (EMPTY ∷ (3 * SPAN + 1) ∷ []) u)) (sym e ∙ one_set x s e cx.some w) (best_leaf 0 q 0 some)

pub build-requires-clause-connected : goal.build-requires-clause-connected
build-requires-clause-connected g c κs =
    subst (Connected (graph_of c.in_ok-query.query)) (sym c.single.ensures) (connected_single (graph_of c.in_ok-query.query) 0 c.n.ensures.valid.some)

pub build-requires-clause-best : goal.build-requires-clause-best
build-requires-clause-best g c κs = leaf_words c.in_ok-query.query c.single.result c.single.ensures c.n.ensures.valid.some
