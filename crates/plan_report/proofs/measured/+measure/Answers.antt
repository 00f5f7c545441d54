use Rattle.std.proofs.Common.{ap}
use Rattle.join_graph.specs.Graphs.{graph_of}
use Rattle.join_tree.specs.TreeOf.{tree_of}
use Rattle.plan_report.proofs.Measures.{sides_connected}
use Rattle.plan_report.proofs.measured.+measure.Goals as goal

pub of_join-numbers-requires-clause-left : goal.of_join-numbers-requires-clause-left
of_join-numbers-requires-clause-left g t c κs within =
    rw (c.numbers.ensures, c.in_ok-left-in-Join.ensures.root, c.deref.ensures)
    (sides_connected g.M.CostModel.KIND (graph_of c.args.query.now) c.in-Join.op (tree_of c.in-Join.left.value) (tree_of c.in-Join.right.value) (tree_of c.args.tree.now) (ap tree_of c.in-Join.is) c.requires.legal).0

pub of_join-numbers-requires-clause-right : goal.of_join-numbers-requires-clause-right
of_join-numbers-requires-clause-right g t c κs within =
    rw (c.numbers-in-Join.ensures, c.in_ok-right-in-Join.ensures.root, c.deref-in-Join.ensures)
    (sides_connected g.M.CostModel.KIND (graph_of c.args.query.now) c.in-Join.op (tree_of c.in-Join.left.value) (tree_of c.in-Join.right.value) (tree_of c.args.tree.now) (ap tree_of c.in-Join.is) c.requires.legal).1
