-- Join trees: their sets, costs and words, the legal ones, the best words and the plan, and the trees
-- that a list of pairs makes. A model is given by its number, and a set of relations by its number.
use Rattle.std.specs.Prelude.{◌≡◌, ℕ, ◌+◌, ◌*◌, ◌<◌, ◌≤◌, ◌⊎◌, List, Contains}
use Rattle.dpe_base.specs.declared.TheConstants.{COST_LIMIT, SPAN, EMPTY}
use Rattle.dpe_base.specs.declared.pair.Pair.{Pair}
use Rattle.dpe_base.specs.Queries.{JoinQuery, relations}
use Rattle.dpe_base.specs.Sets.{union, single, Disjoint}
use Rattle.join_graph.specs.Graphs.{JoinGraph, Crossed, Pairs, pair_of, graph_of}
use Rattle.join_graph.specs.PairLists.{SideBuilt}
use Rattle.card_scaled.specs.Cards.{rows}
use Rattle.cost_model.specs.declared.model.TheConstants.{LEAF}
use Rattle.cost_model.specs.Costs.{operators, join_cost}
use Rattle.cost_model.specs.Words.{word, least_split_word}

-- a relation, or a join of two trees by an operator
pub data JoinTree : Type 0 where
  leaf : ℕ → JoinTree
  join : ℕ → JoinTree → JoinTree → JoinTree

-- the set of the tree's leaves
abbrev pub set_of : JoinTree → ℕ
set_of (leaf r) = single r
set_of (join op left right) = union (set_of left) (set_of right)

-- each leaf is below n
abbrev pub LeavesBelow : ℕ → JoinTree → Type 0
LeavesBelow n (leaf r) = r < n
LeavesBelow n (join op left right) = LeavesBelow n left × LeavesBelow n right

-- a bushy tree without cross products: its leaves are relations of the graph, and each join has an operator of the
-- model and two sides that have no relation in common and are crossed by an edge
abbrev pub Legal : ℕ → JoinGraph → JoinTree → Type 0
Legal model g (leaf r) = r < g.n
Legal model g (join op left right) =
    (op < operators model)
    × Legal model g left
    × Legal model g right
    × Disjoint (set_of left) (set_of right)
    × Crossed g (set_of left) (set_of right)

-- the costs of all joins of the tree, each on the rows of its two sides and of their union
abbrev pub cost : ℕ → JoinQuery → JoinTree → ℕ
cost model q (leaf r) = 0
cost model q (join op left right) =
    cost model q left + cost model q right
    + join_cost model op (rows q (set_of left)) (rows q (set_of right)) (rows q (union (set_of left) (set_of right)))

-- the word of a leaf, which costs nothing: it has LEAF for its operator, which no join has, and its own set
abbrev pub leaf_word : ℕ → ℕ
leaf_word r = LEAF * SPAN + single r

-- the word of a tree, with the operator of its root and its left set, or EMPTY where it costs COST_LIMIT or more
abbrev pub root_word : ℕ → JoinQuery → JoinTree → ℕ
root_word model q (leaf r) = leaf_word r
root_word model q (join op left right) = word (cost model q (join op left right)) op (set_of left)

-- w is the word of the tree
pub record HasWord (model : ℕ) (q : JoinQuery) (t : JoinTree) (w : ℕ) : Type 0 where
  pub below : cost model q t < COST_LIMIT
  pub is : root_word model q t ≡ w

-- w is the word of a legal tree over s, and no legal tree over s has a smaller word
pub record Best (model : ℕ) (q : JoinQuery) (s w : ℕ) : Type 0 where
  pub some : (t : JoinTree) × Legal model (graph_of q) t × (set_of t ≡ s) × HasWord model q t w
  pub least : (t : JoinTree) (v : ℕ) → Legal model (graph_of q) t → set_of t ≡ s → HasWord model q t v → w ≤ v

-- P holds of the tree and of each tree in it
abbrev pub EverySubtree : (JoinTree → Type 0) → JoinTree → Type 0
EverySubtree P (leaf r) = P (leaf r)
EverySubtree P (join op left right) = P (join op left right) × EverySubtree P left × EverySubtree P right

-- the legal tree over s in which each tree has the best word of its set
pub record Plan (model : ℕ) (q : JoinQuery) (s : ℕ) (t : JoinTree) : Type 0 where
  pub legal : Legal model (graph_of q) t
  pub over : set_of t ≡ s
  pub best : EverySubtree (λ u. Best model q (set_of u) (root_word model q u)) t

-- the trees that the pairs of the list make: the leaves of q, and each join whose two sets, in either
-- order, are a pair of the list
abbrev pub Trees : ℕ → JoinQuery → List Pair → JoinTree → Type 0
Trees model q pairs (leaf r) = r < relations q
Trees model q pairs (join op left right) =
    (op < operators model)
    × Trees model q pairs left
    × Trees model q pairs right
    × (Contains pairs (pair_of (set_of left) (set_of right)) ⊎ Contains pairs (pair_of (set_of right) (set_of left)))

-- w is the word of a tree over s that the pairs make
pub record Made (model : ℕ) (q : JoinQuery) (pairs : List Pair) (s w : ℕ) : Type 0 where
  pub tree : JoinTree
  pub made : Trees model q pairs tree
  pub over : set_of tree ≡ s
  pub word : HasWord model q tree w

-- EMPTY, or such a word
abbrev pub IsEmptyOrMade : ℕ → JoinQuery → List Pair → ℕ → ℕ → Type 0
IsEmptyOrMade model q pairs s w = (w ≡ EMPTY) ⊎ Made model q pairs s w

-- w is the word of a tree over s that the pairs make, and no smaller word is
pub record Least (model : ℕ) (q : JoinQuery) (pairs : List Pair) (s w : ℕ) : Type 0 where
  pub made : Made model q pairs s w
  pub least : (v : ℕ) → Made model q pairs s v → w ≤ v

-- the least word of a join of the pair's two sets, over both orders and all operators, on these words of theirs, or EMPTY
abbrev pub pair_word : ℕ → JoinQuery → Pair → ℕ → ℕ → ℕ
pair_word model q p first second = least_split_word model p.a p.b first second (rows q p.a) (rows q p.b) (rows q (union p.a p.b))

-- v is the least word of the pair: on the least words of its sides
pub record LeastOfPair (model : ℕ) (q : JoinQuery) (pairs : List Pair) (p : Pair) (v : ℕ) : Type 0 where
  pub first : ℕ
  pub second : ℕ
  pub least_first : Least model q pairs p.a first
  pub least_second : Least model q pairs p.b second
  pub is : v ≡ pair_word model q p first second

-- w is the least of these words over the pairs of the list with union s
pub record LeastOverPairs (model : ℕ) (q : JoinQuery) (pairs : List Pair) (s w : ℕ) : Type 0 where
  pub some : (p : Pair) × Contains pairs p × (union p.a p.b ≡ s) × LeastOfPair model q pairs p w
  pub least : (p : Pair) (v : ℕ) → Contains pairs p → union p.a p.b ≡ s → LeastOfPair model q pairs p v → w ≤ v

-- the pairs are pairs of the graph, and each side of two relations or more is the union of one of them
pub record Builds (g : JoinGraph) (pairs : List Pair) : Type 0 where
  pub within : (p : Pair) → Contains pairs p → Pairs g p
  pub sides : (p : Pair) → Contains pairs p → SideBuilt pairs p.a × SideBuilt pairs p.b
