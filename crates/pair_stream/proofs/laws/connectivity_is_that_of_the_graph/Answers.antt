use Rattle.pair_stream.proofs.ConnectivityLaws.{is_connected_true, joined_true, neighbours_is}
use Rattle.pair_stream.proofs.laws.connectivity_is_that_of_the_graph.Goals as goal

pub returns-clause-neighbours : goal.returns-clause-neighbours
returns-clause-neighbours c = neighbours_is

pub returns-clause-connected : goal.returns-clause-connected
returns-clause-connected c = is_connected_true

pub returns-clause-crossed : goal.returns-clause-crossed
returns-clause-crossed c = joined_true
