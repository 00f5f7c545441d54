use Rattle.plan_space.proofs.ClassPlans.{connected_sets_have_least_words_in as law}
use Rattle.plan_space.proofs.laws.connected_sets_have_least_words_in.Goals as goal

pub returns : goal.returns
returns c = law
