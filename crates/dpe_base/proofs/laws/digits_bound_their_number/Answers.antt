use Rattle.dpe_base.proofs.DigitLaws.{digits_from, digits_none}
use Rattle.dpe_base.proofs.laws.digits_bound_their_number.Goals as goal

pub returns-clause-none : goal.returns-clause-none
returns-clause-none c = digits_none

pub returns-clause-some : goal.returns-clause-some
returns-clause-some c = digits_from
