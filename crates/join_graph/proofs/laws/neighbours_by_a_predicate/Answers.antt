use Rattle.join_graph.proofs.Crossings.{edge_iff}
use Rattle.join_graph.proofs.laws.neighbours_by_a_predicate.Goals as goal

pub returns : goal.returns
returns c = edge_iff
