use Rattle.dpe_base.proofs.SetLaws.{least_of_set}
use Rattle.dpe_base.proofs.laws.least_is_the_least_member.Goals as goal

pub returns : goal.returns
returns c = least_of_set
