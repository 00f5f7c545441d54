use Rattle.join_graph.proofs.GraphLaws.{grown_pair}
use Rattle.join_graph.proofs.laws.connected_sets_split.Goals as goal

pub returns : goal.returns
returns c = λ g s ok. grown_pair g s ok.few
