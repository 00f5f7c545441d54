-- The seats of the workers: split off the main seat, and taken in again.
use Rattle.std.specs.Prelude.{◌≡◌, ℕ, ◌+◌, ◌*◌, ◌<◌, [], List, length, All, Contains, slice_index_or, sum_by}
use Rattle.dpe_base.specs.declared.pair.Pair.{Pair}
use Rattle.memo_table.specs.Seats.{MemoTable, SeatView, IsSeatOf}
use Rattle.memo_table.specs.Views.{times}
use Rattle.dpe_engine.specs.Working.{past, IsReady, HasWorked}

abbrev pub AreReady : ℕ → MemoTable → ℕ → List Pair → List SeatView → Type 0
AreReady model memo base group crew = All (IsReady model memo base group) crew

-- each seat is what its worker left
pub record HaveWorked (model base : ℕ) (group : List Pair) (before after : List SeatView) : Type 0 where
  pub size : length after ≡ length before
  pub each : (k : ℕ) (d : SeatView) → k < length before → HasWorked model base group (slice_index_or before k d) (slice_index_or after k d)

-- a seat that was split off for a worker
pub record IsWorkerSeat (memo : MemoTable) (before : SeatView) (draws : ℕ) (s : SeatView) : Type 0 where
  pub seat : IsSeatOf memo s
  pub floor : s.view.floor ≡ before.view.floor
  pub weight : s.view.weight ≡ 1
  pub tickets : s.view.tickets ≡ []
  pub bounds : s.view.bounds ≡ before.view.bounds
  pub allowance : s.view.allowance ≡ draws

-- the main seat after the splits, and the crew
pub record IsSplit (memo : MemoTable) (before after : SeatView) (crew : List SeatView) (workers draws : ℕ) : Type 0 where
  pub seat : IsSeatOf memo after
  pub bounds : after.view.bounds ≡ before.view.bounds
  pub tickets : after.view.tickets ≡ before.view.tickets
  pub floor : after.view.floor ≡ before.view.floor
  pub weight : after.view.weight + workers ≡ before.view.weight
  pub allowance : after.view.allowance + workers * draws ≡ before.view.allowance
  pub size : length crew ≡ workers
  pub each : All (IsWorkerSeat memo before draws) crew

-- ---- sums over the main seat and the crew

abbrev pub weights : SeatView → List SeatView → ℕ
weights s crew = s.view.weight + sum_by (λ (c : SeatView). c.view.weight) crew

abbrev pub allowances : SeatView → List SeatView → ℕ
allowances s crew = s.view.allowance + sum_by (λ (c : SeatView). c.view.allowance) crew

abbrev pub all_drawn : SeatView → List SeatView → ℕ
all_drawn s crew = length s.view.tickets + sum_by (λ (c : SeatView). length c.view.tickets) crew

abbrev pub all_past : ℕ → SeatView → List SeatView → ℕ
all_past end s crew = past end s.view.tickets + sum_by (λ (c : SeatView). past end c.view.tickets) crew

abbrev pub all_times : ℕ → SeatView → List SeatView → ℕ
all_times x s crew = times x s.view.tickets + sum_by (λ (c : SeatView). times x c.view.tickets) crew

-- ---- taken in again

-- some seat of the crew has the bound
pub record HasAmong (crew : List SeatView) (b : ℕ × ℕ) : Type 0 where
  pub seat : SeatView
  pub member : Contains crew seat
  pub bound : Contains seat.view.bounds b

-- the main seat took the crew in
pub record IsGathered (memo : MemoTable) (before : SeatView) (crew : List SeatView) (after : SeatView) : Type 0 where
  pub seat : IsSeatOf memo after
  pub bounds : (b : ℕ × ℕ) → Contains before.view.bounds b → Contains after.view.bounds b
  pub weight : after.view.weight ≡ weights before crew
  pub allowance : after.view.allowance ≡ allowances before crew
  pub counted : length after.view.tickets ≡ all_drawn before crew
  pub taken : (b : ℕ × ℕ) → HasAmong crew b → Contains after.view.bounds b
  pub drawn : (x : ℕ) → times x after.view.tickets ≡ all_times x before crew
  pub passed : (end : ℕ) → past end after.view.tickets ≡ all_past end before crew
