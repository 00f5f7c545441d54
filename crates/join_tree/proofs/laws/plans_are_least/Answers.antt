use Rattle.join_tree.proofs.LeastPlan.{plans_are_least as law}
use Rattle.join_tree.proofs.laws.plans_are_least.Goals as goal

pub returns : goal.returns
returns c = law
