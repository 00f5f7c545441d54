-- What one worker needs, and what it leaves.
use Rattle.std.specs.Prelude.{◌≡◌, ℕ, ◌+◌, ◌<◌, ◌≤◌, ◌⊎◌, nat_le, List, ◌++◌, length, count_by, Contains, slice_index_or, []}
use Rattle.dpe_base.specs.declared.TheConstants.{EMPTY}
use Rattle.dpe_base.specs.declared.pair.Pair.{Pair}
use Rattle.dpe_base.specs.Queries.{JoinQuery, IsQuery}
use Rattle.dpe_base.specs.Sets.{union}
use Rattle.join_graph.specs.Graphs.{Pairs, graph_of}
use Rattle.card_scaled.specs.Cards.{RowTable, IsCardTable}
use Rattle.join_tree.specs.Trees.{LeastOfPair}
use Rattle.memo_table.specs.Seats.{MemoTable, SeatView, IsSeatOf, Settled}
use Rattle.memo_table.specs.Views.{times}

-- how many of the numbers are at or past the end
abbrev pub past : ℕ → List ℕ → ℕ
past end xs = count_by (λ x. nat_le end x) xs

-- the memo is of a query and of a list of its csg-cmp-pairs, and the cards are the query's
pub record IsMemoOfQuery (memo : MemoTable) (cards : RowTable) : Type 0 where
  pub query : IsQuery memo.query
  pub within : (p : Pair) → Contains memo.pairs p → Pairs (graph_of memo.query) p
  pub rows : IsCardTable memo.query cards

-- some bound of the set is at most w
pub record IsBounded (bounds : List (ℕ × ℕ)) (s w : ℕ) : Type 0 where
  pub word : ℕ
  pub bound : Contains bounds (s, word)
  pub most : word ≤ w

-- the bounds hold a word of the union that is at most the pair's least word, unless that is EMPTY
abbrev pub IsDone : ℕ → JoinQuery → List Pair → List (ℕ × ℕ) → Pair → Type 0
IsDone model q pairs bounds p =
    (w : ℕ) → LeastOfPair model q pairs p w → (w ≡ EMPTY) ⊎ IsBounded bounds (union p.a p.b) w

-- each pair of the group whose ticket is among the numbers is done
abbrev pub AreDone : ℕ → JoinQuery → List Pair → ℕ → List Pair → List (ℕ × ℕ) → List ℕ → Type 0
AreDone model q pairs base group bounds tickets =
    (k : ℕ) (d : Pair) → k < length group → 0 < times (base + k) tickets → IsDone model q pairs bounds (slice_index_or group k d)

-- the pairs are of the memo's list, and the seat's bounds hold the least words of their sides
pub record AreWorkable (model : ℕ) (group : List Pair) (s : SeatView) : Type 0 where
  pub listed : (p : Pair) → Contains group p → Contains s.view.pairs p
  pub sides : (p : Pair) → Contains group p → Settled model s.view p.a × Settled model s.view p.b

-- a seat that may draw a ticket for each pair and one past them
pub record IsReady (model : ℕ) (memo : MemoTable) (base : ℕ) (group : List Pair) (s : SeatView) : Type 0 where
  pub seat : IsSeatOf memo s
  pub floor : base ≤ s.view.floor
  pub weight : 1 ≤ s.view.weight
  pub allowance : length group + 1 ≤ s.view.allowance
  pub workable : AreWorkable model group s

-- what has been drawn since, and what has stayed
pub record HasDrawn (before after : SeatView) (drawn : List ℕ) : Type 0 where
  pub table : after.table ≡ before.table
  pub query : after.view.query ≡ before.view.query
  pub pairs : after.view.pairs ≡ before.view.pairs
  pub bounds : (b : ℕ × ℕ) → Contains before.view.bounds b → Contains after.view.bounds b
  pub floor : after.view.floor ≡ before.view.floor
  pub weight : after.view.weight ≡ before.view.weight
  pub tickets : after.view.tickets ≡ before.view.tickets ++ drawn
  pub allowance : after.view.allowance + length drawn ≡ before.view.allowance

-- exactly one new ticket is past the pairs, and the pair of each other one is done
pub record HasWorked (model base : ℕ) (group : List Pair) (before after : SeatView) : Type 0 where
  pub tickets : List ℕ
  pub drawn : HasDrawn before after tickets
  pub one_past : past (base + length group) tickets ≡ 1
  pub done : AreDone model before.view.query before.view.pairs base group after.view.bounds tickets

-- one pair is worked: no more than the bounds has changed, and the pair is done
pub record HasWorkedPair (model : ℕ) (p : Pair) (before after : SeatView) : Type 0 where
  pub drawn : HasDrawn before after []
  pub done : IsDone model before.view.query before.view.pairs after.view.bounds p
