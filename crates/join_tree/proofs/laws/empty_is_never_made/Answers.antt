use Rattle.join_tree.proofs.BestLaws.{empty_never_made}
use Rattle.join_tree.proofs.laws.empty_is_never_made.Goals as goal

pub returns : goal.returns
returns c = empty_never_made
