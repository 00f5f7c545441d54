use Rattle.join_tree.proofs.Existence.{connected_sets_have_one_plan as law}
use Rattle.join_tree.proofs.laws.connected_sets_have_one_plan.Goals as goal

pub returns : goal.returns
returns c = law
