use Rattle.skip_vector.proofs.ProbeLaws.{prefixes_together}
use Rattle.skip_vector.proofs.laws.prefixes_stand_together.Goals as goal

pub returns : goal.returns
returns c = prefixes_together
