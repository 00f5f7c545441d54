use Rattle.cost_model.proofs.LawProofs.{empty_is_no_word as law}
use Rattle.cost_model.proofs.laws.empty_is_no_word.Goals as goal

pub returns : goal.returns
returns c = law
