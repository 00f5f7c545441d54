-- How a memo begins.
use Rattle.std.specs.Prelude.{◌≡◌, ℕ, ◌+◌, ◌^◌, ◌<◌, ◌↔◌, List, slice_set, replicate, Contains}
use Rattle.dpe_base.specs.declared.TheConstants.{EMPTY}
use Rattle.dpe_base.specs.declared.pair.Pair.{Pair}
use Rattle.dpe_base.specs.Queries.{JoinQuery}
use Rattle.dpe_base.specs.Sets.{single}
use Rattle.join_tree.specs.Trees.{leaf_word}
use Rattle.memo_table.specs.declared.view.View.{View}
use Rattle.memo_table.specs.declared.view.TreeSpace.{TreeSpace}
use Rattle.memo_table.specs.Seats.{MemoTable, SeatView, IsSeatOf}

abbrev pub space_of : JoinQuery → List Pair → TreeSpace
space_of q pairs = record { query = q; pairs = pairs }

-- the counter at 0, and an empty word for each set of n relations
abbrev pub opening_words : ℕ → List ℕ
opening_words n = slice_set (replicate (2 ^ n + 1) EMPTY) 0 0

-- the bounds are those of the first n relations alone, each with its word
abbrev pub HasLeaves : ℕ → View → Type 0
HasLeaves n v = (b : ℕ × ℕ) → Contains v.bounds b ↔ ((r : ℕ) × (r < n) × (b ≡ (single r, leaf_word r)))

-- so many leaves were offered, and nothing else has changed
pub record IsOpen (memo : MemoTable) (before after : SeatView) (count : ℕ) : Type 0 where
  pub seat : IsSeatOf memo after
  pub weight : after.view.weight ≡ before.view.weight
  pub floor : after.view.floor ≡ before.view.floor
  pub tickets : after.view.tickets ≡ before.view.tickets
  pub allowance : after.view.allowance ≡ before.view.allowance
  pub leaves : HasLeaves count after.view
