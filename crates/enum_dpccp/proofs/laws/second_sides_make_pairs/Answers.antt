use Rattle.enum_dpccp.proofs.SideLaws.{second_once}
use Rattle.enum_dpccp.proofs.DpccpLaw.{second_pairs}
use Rattle.enum_dpccp.proofs.laws.second_sides_make_pairs.Goals as goal

pub returns-clause-members : goal.returns-clause-members
returns-clause-members c g a b ok connected = second_pairs g ok a b connected

pub returns-clause-once : goal.returns-clause-once
returns-clause-once c g a ok = second_once g ok a
