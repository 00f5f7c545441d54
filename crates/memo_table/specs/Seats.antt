-- What contracts see of a memo and of a seat, and what each seat keeps.
use Rattle.std.specs.Prelude.{◌≡◌, ◌≢◌, ℕ, ◌+◌, ◌^◌, ◌≤◌, [], List, Contains}
pub use Rattle.atomic_table.specs.Seated.{TableId}
use Rattle.atomic_table.specs.declared.shared.Seat.{Seat}
use Rattle.dpe_base.specs.declared.TheConstants.{SPAN}
use Rattle.dpe_base.specs.declared.pair.Pair.{Pair}
use Rattle.dpe_base.specs.Queries.{JoinQuery, relations}
use Rattle.dpe_base.specs.Sets.{Within, full}
use Rattle.join_tree.specs.Trees.{Made, Least}
use Rattle.memo_table.specs.declared.view.View.{View}

-- which table a memo is, its query, and its list of pairs
pub record MemoTable : Type 0 where
  pub table : TableId
  pub query : JoinQuery
  pub pairs : List Pair

-- which table a seat is at, and what it knows
pub record SeatView : Type 0 where
  pub table : TableId
  pub view : View

-- the seat is one of the memo
pub record IsSeatOf (memo : MemoTable) (seat : SeatView) : Type 0 where
  pub table : seat.table ≡ memo.table
  pub query : seat.view.query ≡ memo.query
  pub pairs : seat.view.pairs ≡ memo.pairs

-- a set that is not empty, with the word of a tree over it
pub record IsMadeBound (model : ℕ) (q : JoinQuery) (pairs : List Pair) (b : ℕ × ℕ) : Type 0 where
  pub some : b.0 ≢ 0
  pub within : Within b.0 (full (relations q))
  pub made : Made model q pairs b.0 b.1

abbrev pub BoundsAreMade : ℕ → View → Type 0
BoundsAreMade model v = (b : ℕ × ℕ) → Contains v.bounds b → IsMadeBound model v.query v.pairs b

-- the bounds hold the set with the least word of a tree over it
pub record Settled (model : ℕ) (v : View) (s : ℕ) : Type 0 where
  pub word : ℕ
  pub bound : Contains v.bounds (s, word)
  pub least : Least model v.query v.pairs s word

-- what each seat keeps, so that its holder knows it without a step
pub record IsSeated (model : ℕ) (s : Seat (Unit {0}) View) : Type 0 where
  pub no_slot : s.me.1 ≡ []
  pub weight : 1 ≤ s.me.0.weight
  pub width : s.table_id.words ≡ 2 ^ relations s.me.0.query + 1
  pub small : s.table_id.words ≤ SPAN + 1
  pub bounds : BoundsAreMade model s.me.0
