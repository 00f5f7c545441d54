use Rattle.join_tree.proofs.Substructure.{sides_have_least_words as sides}
use Rattle.join_tree.proofs.laws.sides_have_least_words.Goals as goal

pub returns : goal.returns
returns c = sides
