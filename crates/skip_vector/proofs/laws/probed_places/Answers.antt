use Rattle.skip_vector.proofs.ProbeLaws.{probed_iff}
use Rattle.skip_vector.proofs.laws.probed_places.Goals as goal

pub returns : goal.returns
returns c = probed_iff
