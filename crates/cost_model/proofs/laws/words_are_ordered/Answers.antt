use Rattle.cost_model.proofs.LawProofs.{words_are_ordered as law}
use Rattle.cost_model.proofs.laws.words_are_ordered.Goals as goal

pub returns : goal.returns
returns c = law
