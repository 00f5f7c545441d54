-- What holds between any two atomic steps, of the counter, the memo words and the views of all seats.
use Rattle.std.specs.Prelude.{◌≡◌, ◌≢◌, ℕ, ◌+◌, ◌^◌, ◌≤◌, ◌⊎◌, List, length, slice_index, slice_index_or, sum_by, Contains}
use mathlib.Core.Option.{some}
use lib.ListN.{get_elem?}
use Rattle.atomic_table.specs.Table.{State}
use Rattle.dpe_base.specs.declared.TheConstants.{EMPTY, WEIGHT, DRAWS}
use Rattle.dpe_base.specs.declared.pair.Pair.{Pair}
use Rattle.dpe_base.specs.Queries.{IsQuery, relations}
use Rattle.join_graph.specs.Graphs.{Pairs, graph_of}
use Rattle.join_tree.specs.Trees.{IsEmptyOrMade}
use Rattle.memo_table.specs.declared.view.View.{View}
use Rattle.memo_table.specs.declared.view.TreeSpace.{TreeSpace}
use Rattle.memo_table.specs.Seats.{IsMadeBound}
use Rattle.memo_table.specs.Views.{times, once_below, spent_view}

abbrev pub TableState : Type 0
TableState = State (Unit {0}) View

-- the first word is the counter
abbrev pub counter : List ℕ → ℕ
counter words = slice_index words 0

-- and the others are the memo words of the sets, by the sets' numbers
abbrev pub memo_word : List ℕ → ℕ → ℕ
memo_word words s = slice_index_or words (s + 1) EMPTY

-- The tickets of all views are the numbers below the counter n, each once. The weights, and the counter with the
-- allowances, have fixed sums
pub record Counts (n : ℕ) (views : List View) : Type 0 where
  pub once : (x : ℕ) → sum_by (λ v. times x v.tickets) views ≡ once_below x n
  pub count : sum_by (λ v. length v.tickets) views ≡ n
  pub weights : sum_by (λ v. v.weight) views ≡ WEIGHT
  pub draws : n + sum_by (λ v. v.allowance) views ≡ DRAWS

-- some view has the bound
pub record IsHeld (views : List View) (b : ℕ × ℕ) : Type 0 where
  pub seat : ℕ
  pub view : View
  pub at : get_elem? views seat ≡ some view
  pub bound : Contains view.bounds b

-- the query is one, and each pair of the list is one of its pairs
pub record IsTreeSpace (space : TreeSpace) : Type 0 where
  pub query : IsQuery space.query
  pub pairs : (p : Pair) → Contains space.pairs p → Pairs (graph_of space.query) p

module _ (model : ℕ) (space : TreeSpace) where
  -- what a seat may know of a set's word, which is no greater
  pub record IsBound (words : List ℕ) (b : ℕ × ℕ) : Type 0 where
    pub is : IsMadeBound model space.query space.pairs b
    pub reached : memo_word words b.0 ≤ b.1

  -- what a seat that is not spent knows is true
  pub record IsLive (words : List ℕ) (v : View) : Type 0 where
    pub weight : 1 ≤ v.weight
    pub query : v.query ≡ space.query
    pub pairs : v.pairs ≡ space.pairs
    pub floor : v.floor ≤ counter words
    pub bounds : (b : ℕ × ℕ) → Contains v.bounds b → IsBound words b

  -- a memo word for each set; that of the empty set is EMPTY, and each is EMPTY or that of a tree over its set
  pub record AreMemoWords (words : List ℕ) : Type 0 where
    pub width : length words ≡ 2 ^ relations space.query + 1
    pub none : memo_word words 0 ≡ EMPTY
    pub made : (s : ℕ) → IsEmptyOrMade model space.query space.pairs s (memo_word words s)

  pub record Kept (s : TableState) : Type 0 where
    pub listed : IsTreeSpace space
    pub words : AreMemoWords s.words
    pub held : (set : ℕ) → memo_word s.words set ≢ EMPTY → IsHeld s.views (set, memo_word s.words set)
    pub counts : Counts (counter s.words) s.views
    pub views : (seat : ℕ) (v : View) → get_elem? s.views seat ≡ some v → (v ≡ spent_view) ⊎ IsLive s.words v
