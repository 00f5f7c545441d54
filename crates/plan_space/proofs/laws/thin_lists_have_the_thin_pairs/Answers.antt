use Rattle.plan_space.proofs.ThinLaws.{thin_lists_have_the_thin_pairs as law}
use Rattle.plan_space.proofs.laws.thin_lists_have_the_thin_pairs.Goals as goal

pub returns : goal.returns
returns c = law
