use Rattle.join_graph.specs.Graphs.{graph_of}
use Rattle.join_graph.proofs.Edges.{graph_is}
use Rattle.planner.proofs.Listings.{narrow_listed}
use Rattle.planner.proofs.alone.through.Goals as goal

pub over-requires-clause-stream : goal.over-requires-clause-stream
over-requires-clause-stream g c κs within =
    narrow_listed c.args.job.now.options.now.class c.args.job.now.options.now.enumerator (graph_of c.args.job.now.query.now) c.args.narrow
    (g.P.PairStream.left c.args.stream) _ (g.P.PairStream.total c.args.stream) _ c.if-narrow.true c.requires.class
    (graph_is c.args.job.now.query.now c.recall.ensures) c.requires.stream c.over-thin.ensures.list c.over-thin.ensures.total
