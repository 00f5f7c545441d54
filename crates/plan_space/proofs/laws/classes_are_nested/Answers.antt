use Rattle.plan_space.proofs.Nested.{classes_are_nested as law}
use Rattle.plan_space.proofs.laws.classes_are_nested.Goals as goal

pub returns : goal.returns
returns c = law
