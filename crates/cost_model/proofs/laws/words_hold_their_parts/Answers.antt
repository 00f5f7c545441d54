use Rattle.cost_model.proofs.LawProofs.{words_hold_their_parts as law}
use Rattle.cost_model.proofs.laws.words_hold_their_parts.Goals as goal

pub returns : goal.returns
returns c = law
