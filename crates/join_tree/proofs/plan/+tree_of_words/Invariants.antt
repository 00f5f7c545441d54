use Rattle.join_tree.proofs.plan.+tree_of_words.Given as goal

abbrev pub decreases-tree_of_words : goal.decreases-tree_of_words
decreases-tree_of_words l = l.s
