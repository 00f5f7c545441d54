use Rattle.plan_space.proofs.Nested.{narrower_classes_cost_no_less as law}
use Rattle.plan_space.proofs.laws.narrower_classes_cost_no_less.Goals as goal

pub returns : goal.returns
returns c = law
