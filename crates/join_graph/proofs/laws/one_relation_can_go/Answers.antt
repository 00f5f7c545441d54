use Rattle.join_graph.proofs.GraphLaws.{connected_without}
use Rattle.join_graph.proofs.laws.one_relation_can_go.Goals as goal

pub returns : goal.returns
returns c = connected_without
