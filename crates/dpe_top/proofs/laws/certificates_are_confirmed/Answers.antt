use Rattle.dpe_top.proofs.Confirming.{certified_is_optimal, none_is_wrong}
use Rattle.dpe_top.proofs.laws.certificates_are_confirmed.Goals as goal

pub returns-clause-each : goal.returns-clause-each
returns-clause-each c = certified_is_optimal

pub returns-clause-all : goal.returns-clause-all
returns-clause-all c = none_is_wrong
