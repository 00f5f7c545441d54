use Rattle.cost_model.proofs.LawProofs.{costs_are_bounded as law}
use Rattle.cost_model.proofs.laws.costs_are_bounded.Goals as goal

pub returns : goal.returns
returns c = law
