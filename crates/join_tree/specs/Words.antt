-- The words that a plan is read from, and the tree that words name.
use Rattle.std.specs.Prelude.{◌≡◌, ℕ, List, slice_index}
use Rattle.dpe_base.specs.Queries.{JoinQuery}
use Rattle.dpe_base.specs.Sets.{Within, Disjoint, union}
use Rattle.join_graph.specs.Graphs.{Connected, graph_of}
use Rattle.cost_model.specs.Words.{word_op, word_left}
use Rattle.join_tree.specs.Trees.{JoinTree, leaf, join, set_of, Best}

-- the word of each connected set within s is the best one
abbrev pub HasBestWords : ℕ → JoinQuery → List ℕ → ℕ → Type 0
HasBestWords kind q words s =
    (x : ℕ) → Connected (graph_of q) x → Within x s → Best kind q x (slice_index words x)

-- at the set of each join in the tree the word names the join's operator and its left set
abbrev pub NamedBy : List ℕ → JoinTree → Type 0
NamedBy words (leaf r) = Unit
NamedBy words (join op left right) =
    (op ≡ word_op (slice_index words (union (set_of left) (set_of right))))
    × (set_of left ≡ word_left (slice_index words (union (set_of left) (set_of right))))
    × Disjoint (set_of left) (set_of right)
    × NamedBy words left
    × NamedBy words right

-- the tree is over s and named by the words
pub record IsNamed (words : List ℕ) (s : ℕ) (t : JoinTree) : Type 0 where
  pub over : set_of t ≡ s
  pub named : NamedBy words t
