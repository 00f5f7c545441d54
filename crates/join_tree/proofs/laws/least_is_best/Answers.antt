use Rattle.join_tree.proofs.BestLaws.{least_best}
use Rattle.join_tree.proofs.laws.least_is_best.Goals as goal

pub returns : goal.returns
returns c = least_best
