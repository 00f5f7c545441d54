-- The words of the trees that the pairs of a list make.
use Rattle.std.proofs.Common.{ℕ, ◌<◌, arith, refl}
use Rattle.dpe_base.specs.declared.TheConstants.{EMPTY}
use Rattle.dpe_base.specs.Queries.{relations}
use Rattle.dpe_base.specs.Sets.{single}
use Rattle.join_tree.specs.Trees.{leaf, leaf_word, Made, Least}
use Rattle.join_tree.proofs.BestLaws.{made_word, least_single}
use Rattle.memo_table.specs.declared.view.TreeSpace.{TreeSpace}
use Rattle.memo_table.specs.Rule.{IsTreeSpace}

-- the word of a relation alone is that of its leaf
pub leaf_made : (model : ℕ) (space : TreeSpace) (r : ℕ) → r < relations space.query → Made model space.query space.pairs (single r) (leaf_word r)
leaf_made model space r l = record { tree = leaf r; made = l; over = refl; word = record { below = omega arith; is = refl } }

module _ (model : ℕ) (space : TreeSpace) (is : IsTreeSpace space) where
  -- EMPTY is above each tree's word
  pub made_below : (s w : ℕ) → Made model space.query space.pairs s w → w < EMPTY
  made_below s w m = made_word model space.query space.pairs m.tree w is.query m.made m.word

  -- a relation alone has one word
  pub leaf_least : (r : ℕ) → r < relations space.query → Least model space.query space.pairs (single r) (leaf_word r)
  leaf_least r l = least_single model space.query space.pairs is.pairs r l
