use Rattle.plan_space.proofs.ThinLaws.{thin_pairs_give_least_words as law}
use Rattle.plan_space.proofs.laws.thin_pairs_give_least_words.Goals as goal

pub returns : goal.returns
returns c = law
