-- Classes of trees by the joins that they have, the least words in a class, and the plan in it.
use Rattle.std.specs.Prelude.{◌≡◌, ℕ, ◌≤◌, ◌⊎◌}
use Rattle.dpe_base.specs.Queries.{JoinQuery}
use Rattle.dpe_base.specs.Sets.{size}
use Rattle.join_graph.specs.Graphs.{JoinGraph, graph_of}
use Rattle.join_tree.specs.Trees.{JoinTree, leaf, join, set_of, root_word, Legal, HasWord, EverySubtree}
use Rattle.plan_space.specs.declared.class.Class.{Class}
use Rattle.plan_space.specs.declared.class.Class.TheVariants.{Narrow, ZigZag, LeftDeep}

abbrev pub IsLeaf : JoinTree → Type 0
IsLeaf (leaf r) = Unit
IsLeaf (join op left right) = ⊥

-- what a join of the class has on its left and its right
abbrev pub SidesIn : Class → JoinTree → JoinTree → Type 0
SidesIn Narrow left right = (size (set_of left) ≤ 2) ⊎ (size (set_of right) ≤ 2)
SidesIn ZigZag left right = IsLeaf left ⊎ IsLeaf right
SidesIn LeftDeep left right = IsLeaf right

-- each join of the tree is one of the class
abbrev pub JoinsIn : Class → JoinTree → Type 0
JoinsIn c (leaf r) = Unit
JoinsIn c (join op left right) = SidesIn c left right × JoinsIn c left × JoinsIn c right

-- a legal tree, each of whose joins is one of the class
pub record InClass (c : Class) (model : ℕ) (g : JoinGraph) (t : JoinTree) : Type 0 where
  pub legal : Legal model g t
  pub joins : JoinsIn c t

-- w is the word of a tree of the class over s, and no tree of the class over s has a smaller word
pub record LeastIn (c : Class) (model : ℕ) (q : JoinQuery) (s w : ℕ) : Type 0 where
  pub some : (t : JoinTree) × InClass c model (graph_of q) t × (set_of t ≡ s) × HasWord model q t w
  pub least : (t : JoinTree) (v : ℕ) → InClass c model (graph_of q) t → set_of t ≡ s → HasWord model q t v → w ≤ v

-- the tree of the class over s in which each tree has the least word of the class over its set
pub record PlanIn (c : Class) (model : ℕ) (q : JoinQuery) (s : ℕ) (t : JoinTree) : Type 0 where
  pub in_class : InClass c model (graph_of q) t
  pub over : set_of t ≡ s
  pub best : EverySubtree (λ u. LeastIn c model q (set_of u) (root_word model q u)) t
