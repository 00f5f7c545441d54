use Rattle.join_graph.proofs.GraphLaws.{pair_either, pair_once}
use Rattle.join_graph.proofs.laws.pairs_stand_in_one_order.Goals as goal

pub returns : goal.returns
returns c = λ g a b is ca cb apart crossed. (pair_either g a b is.few ca cb apart crossed, pair_once g a b is.few)
