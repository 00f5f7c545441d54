use Rattle.plan_space.proofs.ThinLaws.{thin_pairs_build_their_sides as law}
use Rattle.plan_space.proofs.laws.thin_pairs_build_their_sides.Goals as goal

pub returns : goal.returns
returns c = law
