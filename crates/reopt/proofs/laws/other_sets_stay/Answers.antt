use Rattle.reopt.proofs.OtherSets.{other_sets_stay}
use Rattle.reopt.proofs.laws.other_sets_stay.Goals as goal

pub returns : goal.returns
returns c = other_sets_stay
