use Rattle.join_tree.proofs.Existence.{connected_sets_have_best_words as law}
use Rattle.join_tree.proofs.laws.connected_sets_have_best_words.Goals as goal

pub returns : goal.returns
returns c = law
