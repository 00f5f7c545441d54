use Rattle.join_tree.proofs.BestLaws.{lesser_made}
use Rattle.join_tree.proofs.laws.lesser_is_made.Goals as goal

pub returns : goal.returns
returns c = lesser_made
