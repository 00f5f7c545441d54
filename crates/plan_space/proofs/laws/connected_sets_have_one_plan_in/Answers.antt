use Rattle.plan_space.proofs.ClassPlans.{connected_sets_have_one_plan_in as law}
use Rattle.plan_space.proofs.laws.connected_sets_have_one_plan_in.Goals as goal

pub returns : goal.returns
returns c = law
