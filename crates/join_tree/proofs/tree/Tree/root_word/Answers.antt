use Rattle.std.proofs.Common.{arith, ◌≡◌, MatchOption, ◌<◌, ◌≤◌, sym, ap, subst}
use Rattle.join_tree.specs.TreeOf.{tree_of}
use Rattle.join_tree.specs.Trees.{LeavesBelow, Legal, set_of, cost, root_word}
use Rattle.dpe_base.specs.declared.TheConstants.{COST_LIMIT}
use Rattle.dpe_base.specs.Queries.{relations}
use Rattle.dpe_base.specs.Sets.{single}
use Rattle.dpe_base.proofs.SizeLaws.{within_span}
use Rattle.join_graph.specs.Graphs.{graph_of}
use Rattle.join_graph.proofs.GraphLaws.{connected_single}
use Rattle.join_tree.proofs.TreeCosts.{legal_join, leaf_answer}
use Rattle.join_tree.proofs.tree.Tree.root_word.Goals as goal

pub of-requires-clause-left : goal.of-requires-clause-left
of-requires-clause-left g c =
    let known : c.in-Leaf.r < relations c.args.query.now = subst (λ x. Legal g.M.CostModel.KIND (graph_of c.args.query.now) (tree_of x)) c.in-Leaf.is c.requires in
    rw c.single.ensures (within_span (single c.in-Leaf.r) (relations c.args.query.now) (connected_single (graph_of c.args.query.now) c.in-Leaf.r known).within c.recall.ensures.few)

pub set-requires : goal.set-requires
set-requires g c =
    subst (λ x. LeavesBelow 32 (tree_of x)) (sym c.deref.ensures)
    (legal_join g.M.CostModel.KIND (graph_of c.args.query.now) c.in-Join.op (tree_of c.in-Join.left.value) (tree_of c.in-Join.right.value) (tree_of c.args.self.now) c.recall.ensures.few (ap tree_of c.in-Join.is) c.requires).left_leaves

pub of-requires-in-Join-clause-left : goal.of-requires-in-Join-clause-left
of-requires-in-Join-clause-left g c =
    rw (c.set.ensures, c.deref.ensures)
    (within_span (set_of (tree_of c.in-Join.left.value)) (relations c.args.query.now) (legal_join g.M.CostModel.KIND (graph_of c.args.query.now) c.in-Join.op (tree_of c.in-Join.left.value) (tree_of c.in-Join.right.value) (tree_of c.args.self.now) c.recall.ensures.few (ap tree_of c.in-Join.is) c.requires).left_connected.within c.recall.ensures.few)

pub returns-in-Leaf : goal.returns-in-Leaf
returns-in-Leaf g c =
    let no_cost : cost g.M.CostModel.KIND c.args.query.now (tree_of c.args.self.now) ≡ 0 = ap (λ x. cost g.M.CostModel.KIND c.args.query.now (tree_of x)) c.in-Leaf.is in
    let free : c.cost-cost.result ≡ 0 = omega (arith, c.cost-cost.ensures, no_cost) in
    subst (λ x. MatchOption c.of.result (COST_LIMIT ≤ cost g.M.CostModel.KIND c.args.query.now (tree_of x)) (λ w. (cost g.M.CostModel.KIND c.args.query.now (tree_of x) < COST_LIMIT) × (w ≡ root_word g.M.CostModel.KIND c.args.query.now (tree_of x)))) (sym c.in-Leaf.is)
    (leaf_answer c.of.result c.cost-cost.result c.single.result c.in-Leaf.r free c.single.ensures c.of.ensures)
