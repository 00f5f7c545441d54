use Rattle.connected_sets.proofs.GrownLaws.{sets_has, sets_once}
use Rattle.connected_sets.proofs.laws.each_connected_set_once.Goals as goal

pub returns-clause-members : goal.returns-clause-members
returns-clause-members c g s ok = sets_has g ok s

pub returns-clause-once : goal.returns-clause-once
returns-clause-once c g ok = sets_once g ok
