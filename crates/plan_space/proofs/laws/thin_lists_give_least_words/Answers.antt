use Rattle.plan_space.proofs.ThinLaws.{thin_lists_give_least_words as law}
use Rattle.plan_space.proofs.laws.thin_lists_give_least_words.Goals as goal

pub returns : goal.returns
returns c = law
