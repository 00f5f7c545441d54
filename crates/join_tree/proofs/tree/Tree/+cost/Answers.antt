use Rattle.std.proofs.Common.{◌*◌, ◌^◌, ◌<◌, ◌∙◌, sym, ap, subst, arith}
use Rattle.dpe_base.specs.declared.TheConstants.{N_MAX}
use Rattle.join_graph.specs.Graphs.{Connected, graph_of}
use Rattle.join_tree.specs.TreeOf.{tree_of}
use Rattle.join_tree.specs.Trees.{LeavesBelow, set_of, cost}
use Rattle.join_tree.proofs.TreeCosts.{IsLegalJoin, legal_join, legal_cost_small}
use Rattle.join_tree.proofs.tree.Tree.+cost.Goals as goal

pub set-l-requires : goal.set-l-requires
set-l-requires g t c =
    subst (λ x. LeavesBelow 32 (tree_of x)) (sym c.deref.ensures)
    (legal_join g.M.CostModel.KIND (graph_of c.args.query.now) c.in-Join.op (tree_of c.in-Join.left.value) (tree_of c.in-Join.right.value) (tree_of c.args.self.now) c.recall.ensures.few (ap tree_of c.in-Join.is) c.requires).left_leaves

pub set-r-requires : goal.set-r-requires
set-r-requires g t c =
    subst (λ x. LeavesBelow 32 (tree_of x)) (sym c.deref-in-Join.ensures)
    (legal_join g.M.CostModel.KIND (graph_of c.args.query.now) c.in-Join.op (tree_of c.in-Join.left.value) (tree_of c.in-Join.right.value) (tree_of c.args.self.now) c.recall.ensures.few (ap tree_of c.in-Join.is) c.requires).right_leaves

pub operator_cost-join-requires-clause-left : goal.operator_cost-join-requires-clause-left
operator_cost-join-requires-clause-left g t c = λ κs out.
    subst (Connected (graph_of c.args.query.now)) (sym (c.set-l.ensures ∙ ap (λ x. set_of (tree_of x)) c.deref.ensures))
    (legal_join g.M.CostModel.KIND (graph_of c.args.query.now) c.in-Join.op (tree_of c.in-Join.left.value) (tree_of c.in-Join.right.value) (tree_of c.args.self.now) c.recall.ensures.few (ap tree_of c.in-Join.is) c.requires).left_connected

pub operator_cost-join-requires-clause-right : goal.operator_cost-join-requires-clause-right
operator_cost-join-requires-clause-right g t c = λ κs out.
    subst (Connected (graph_of c.args.query.now)) (sym (c.set-r.ensures ∙ ap (λ x. set_of (tree_of x)) c.deref-in-Join.ensures))
    (legal_join g.M.CostModel.KIND (graph_of c.args.query.now) c.in-Join.op (tree_of c.in-Join.left.value) (tree_of c.in-Join.right.value) (tree_of c.args.self.now) c.recall.ensures.few (ap tree_of c.in-Join.is) c.requires).right_connected

pub overflow_add-result : goal.overflow_add-result
overflow_add-result g t c =
    let known : IsLegalJoin g.M.CostModel.KIND (graph_of c.args.query.now) c.in-Join.op (tree_of c.in-Join.left.value) (tree_of c.in-Join.right.value) =
    legal_join g.M.CostModel.KIND (graph_of c.args.query.now) c.in-Join.op (tree_of c.in-Join.left.value) (tree_of c.in-Join.right.value) (tree_of c.args.self.now) c.recall.ensures.few (ap tree_of c.in-Join.is) c.requires in
    let left : cost g.M.CostModel.KIND c.args.query.now (tree_of c.deref-in-Join-2.result.now) < N_MAX * 2 ^ 90 =
    rw c.deref-in-Join-2.ensures (legal_cost_small g.M.CostModel.KIND c.args.query.now (tree_of c.in-Join.left.value) c.recall.ensures known.left_legal) in
    let right : cost g.M.CostModel.KIND c.args.query.now (tree_of c.deref-in-Join-3.result.now) < N_MAX * 2 ^ 90 =
    rw c.deref-in-Join-3.ensures (legal_cost_small g.M.CostModel.KIND c.args.query.now (tree_of c.in-Join.right.value) c.recall.ensures known.right_legal) in
    omega (arith, c.cost.ensures, c.cost-in-Join.ensures, left, right)

pub overflow_add-result-in-Join : goal.overflow_add-result-in-Join
overflow_add-result-in-Join g t c =
    let known : IsLegalJoin g.M.CostModel.KIND (graph_of c.args.query.now) c.in-Join.op (tree_of c.in-Join.left.value) (tree_of c.in-Join.right.value) =
    legal_join g.M.CostModel.KIND (graph_of c.args.query.now) c.in-Join.op (tree_of c.in-Join.left.value) (tree_of c.in-Join.right.value) (tree_of c.args.self.now) c.recall.ensures.few (ap tree_of c.in-Join.is) c.requires in
    let left : cost g.M.CostModel.KIND c.args.query.now (tree_of c.deref-in-Join-2.result.now) < N_MAX * 2 ^ 90 =
    rw c.deref-in-Join-2.ensures (legal_cost_small g.M.CostModel.KIND c.args.query.now (tree_of c.in-Join.left.value) c.recall.ensures known.left_legal) in
    let right : cost g.M.CostModel.KIND c.args.query.now (tree_of c.deref-in-Join-3.result.now) < N_MAX * 2 ^ 90 =
    rw c.deref-in-Join-3.ensures (legal_cost_small g.M.CostModel.KIND c.args.query.now (tree_of c.in-Join.right.value) c.recall.ensures known.right_legal) in
    omega (arith, c.cost.ensures, c.cost-in-Join.ensures, left, right, c.operator_cost-join.ensures.small)
