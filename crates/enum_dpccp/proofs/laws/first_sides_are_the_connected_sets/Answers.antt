use Rattle.connected_sets.proofs.GrownLaws.{sets_has, sets_once}
use Rattle.enum_dpccp.proofs.laws.first_sides_are_the_connected_sets.Goals as goal

pub returns-clause-members : goal.returns-clause-members
returns-clause-members c g a ok = sets_has g ok a

pub returns-clause-once : goal.returns-clause-once
returns-clause-once c g ok = sets_once g ok
