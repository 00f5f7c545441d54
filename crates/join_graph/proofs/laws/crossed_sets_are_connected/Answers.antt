use Rattle.join_graph.proofs.GraphLaws.{connected_union}
use Rattle.join_graph.proofs.laws.crossed_sets_are_connected.Goals as goal

pub returns : goal.returns
returns c = connected_union
