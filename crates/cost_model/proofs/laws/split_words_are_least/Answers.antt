use Rattle.cost_model.proofs.LawProofs.{split_words_are_least as law}
use Rattle.cost_model.proofs.laws.split_words_are_least.Goals as goal

pub returns : goal.returns
returns c = law
