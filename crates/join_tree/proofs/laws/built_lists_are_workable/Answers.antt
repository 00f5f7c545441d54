use Rattle.join_tree.proofs.BuiltLists.{built_lists_are_workable as law}
use Rattle.join_tree.proofs.laws.built_lists_are_workable.Goals as goal

pub returns : goal.returns
returns c = law
