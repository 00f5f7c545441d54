use Rattle.join_graph.proofs.Edges.{graph_is}
use Rattle.join_graph.proofs.graph.Graph.of.Goals as goal

pub invariant_of-result : goal.invariant_of-result
invariant_of-result c =
    rw (c.n.ensures.value, c.adjacency.ensures, c.preds.ensures.value) (graph_is c.args.query.now c.n.ensures.valid)
