-- What each kind of step tells its seat.
use Rattle.std.specs.Prelude.{◌≡◌, ℕ, ◌+◌, ◌<◌, ◌≤◌, All, Contains}
use Rattle.atomic_table.specs.Table.{Me, Step}
use Rattle.dpe_base.specs.declared.TheConstants.{EMPTY, WEIGHT}
use Rattle.join_tree.specs.Trees.{Made}
use Rattle.memo_table.specs.declared.view.View.{View}
use Rattle.memo_table.specs.declared.view.TreeSpace.{TreeSpace}
use Rattle.memo_table.specs.Views.{EachOnceBelow, with_bound, with_offer, with_ticket, with_floor}

-- a seat's view, and the slots that it holds, of which there are none
abbrev pub SeatState : Type 0
SeatState = Me (Unit {0}) View

-- the word found is a bound more: that of a tree over the set, and at most each bound of the set
pub record LoadsWord (model s : ℕ) (v : View) (n : ℕ) (w : View) : Type 0 where
  pub view : w ≡ with_bound v s n
  pub made : Made model v.query v.pairs s n
  pub some : n < EMPTY
  pub least : (b : ℕ) → Contains v.bounds (s, b) → n ≤ b

abbrev pub load_tells : ℕ → Step (Unit {0}) → SeatState → ℕ → SeatState → Type 0
load_tells model st m n m' = (m'.1 ≡ m.1) × ((s : ℕ) → st.word ≡ s + 1 → LoadsWord model s m.0 n m'.0)

abbrev pub offer_tells : Step (Unit {0}) → SeatState → ℕ → SeatState → Type 0
offer_tells st m n m' = (m'.1 ≡ m.1) × ((s : ℕ) → st.word ≡ s + 1 → m'.0 ≡ with_offer m.0 s st.first)

-- the number drawn is at or above the floor, and above each of the seat's tickets
pub record DrawsTicket (v : View) (n : ℕ) (w : View) : Type 0 where
  pub view : w ≡ with_ticket v n
  pub floor : v.floor ≤ n
  pub above : All (λ x. x < n) v.tickets

abbrev pub draw_tells : Step (Unit {0}) → SeatState → ℕ → SeatState → Type 0
draw_tells st m n m' = (m'.1 ≡ m.1) × DrawsTicket m.0 n m'.0

-- the counter is at or above the floor and above each ticket; who has the whole weight has all numbers below it
pub record SeesDrawn (v : View) (n : ℕ) (w : View) : Type 0 where
  pub view : w ≡ with_floor v n
  pub floor : v.floor ≤ n
  pub above : All (λ x. x < n) v.tickets
  pub all : v.weight ≡ WEIGHT → EachOnceBelow n v.tickets

abbrev pub drawn_tells : Step (Unit {0}) → SeatState → ℕ → SeatState → Type 0
drawn_tells st m n m' = (m'.1 ≡ m.1) × SeesDrawn m.0 n m'.0

-- the key's view is the one that was named
abbrev pub names : TreeSpace → Step (Unit {0}) → Me (Unit {0}) TreeSpace → ℕ → Me (Unit {0}) TreeSpace → Type 0
names space st m n m' = m'.0 ≡ space
