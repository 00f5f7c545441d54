use Rattle.plan_space.proofs.ThinLaws.{thin_lists_are_ordered as law}
use Rattle.plan_space.proofs.laws.thin_lists_are_ordered.Goals as goal

pub returns : goal.returns
returns c = law
