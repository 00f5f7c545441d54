-- The least of some words, and the words from which those of the left-deep trees are made.
use Rattle.std.specs.Prelude.{◌≡◌, ◌≢◌, ℕ, ◌+◌, ◌<◌, ◌≤◌, ◌⊎◌, List, slice_index}
use Rattle.dpe_base.specs.declared.TheConstants.{ROW_CAP, EMPTY}
use Rattle.dpe_base.specs.Queries.{JoinQuery}
use Rattle.dpe_base.specs.Sets.{Within, minus, single, full}
use Rattle.join_graph.specs.Graphs.{JoinGraph, Connected, Crossed, graph_of}
use Rattle.card_scaled.specs.Cards.{RowTable}
use Rattle.cost_model.specs.Costs.{operators, join_cost}
use Rattle.cost_model.specs.Words.{word, word_cost}
use Rattle.join_tree.specs.Trees.{JoinTree, set_of}
use Rattle.plan_space.specs.declared.class.Class.{Class}
use Rattle.plan_space.specs.Classes.{InClass, LeastIn}

-- w is the least word of the class over s, or EMPTY when no tree of the class is over s
abbrev pub LeastOrEmpty : Class → ℕ → JoinQuery → ℕ → ℕ → Type 0
LeastOrEmpty c model q s w =
    LeastIn c model q s w ⊎ ((w ≡ EMPTY) × ((t : JoinTree) → InClass c model (graph_of q) t → set_of t ≡ s → ⊥))

-- the word of each connected set within s is the least of the class
abbrev pub HasLeastWords : Class → ℕ → JoinQuery → List ℕ → ℕ → Type 0
HasLeastWords c model q words s =
    (x : ℕ) → Connected (graph_of q) x → Within x s → LeastIn c model q x (slice_index words x)

-- ---- the steps of `left_words`

-- w is the least of the words, or EMPTY when there is none
pub record IsLeastOf (IsWord : ℕ → Type 0) (w : ℕ) : Type 0 where
  pub one : (w ≡ EMPTY) ⊎ IsWord w
  pub least : (v : ℕ) → IsWord v → w ≤ v

-- v is the word of a join by an operator below n, with a left side of this set and word, on l and r rows with o rows of output
abbrev pub JoinsBelow : ℕ → ℕ → ℕ → ℕ → ℕ → ℕ → ℕ → ℕ → Type 0
JoinsBelow n model left first l r o v = (op : ℕ) × (op < n) × (v ≡ word (word_cost first + join_cost model op l r o) op left)

-- v is the word of a join of the rest of s, on the left, with its relation r
abbrev pub EndsWith : ℕ → JoinGraph → List ℕ → List ℕ → ℕ → ℕ → ℕ → Type 0
EndsWith model g rows words s r v =
    (slice_index words (minus s (single r)) ≢ EMPTY)
    × Crossed g (single r) (minus s (single r))
    × JoinsBelow (operators model) model (minus s (single r)) (slice_index words (minus s (single r))) (slice_index rows (minus s (single r))) (slice_index rows (single r)) (slice_index rows s) v

-- the rows of each set are between 1 and the greatest cardinality
abbrev pub HasRows : RowTable → Type 0
HasRows table =
    (s : ℕ) → s ≢ 0 → Within s (full table.n) → (1 ≤ slice_index table.rows s) × (slice_index table.rows s ≤ ROW_CAP)
