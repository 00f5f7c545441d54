use Rattle.join_graph.specs.Graphs.{graph_of}
use Rattle.planner.proofs.Listings.{listed_within}
use Rattle.planner.proofs.job.Job.engine.Goals as goal

pub prepare-requires-clause-within : goal.prepare-requires-clause-within
prepare-requires-clause-within g c κs within =
    λ p. listed_within c.args.self.now.options.now.class (graph_of c.args.self.now.query.now) (g.P.PairStream.left c.args.stream.now) c.requires.stream.whole p
