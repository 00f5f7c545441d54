use Rattle.plan_space.proofs.ThinLaws.{thin_pairs_make_the_classes as law}
use Rattle.plan_space.proofs.laws.thin_pairs_make_the_classes.Goals as goal

pub returns : goal.returns
returns c = law
