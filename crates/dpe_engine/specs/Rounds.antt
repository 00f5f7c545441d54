-- What a round does to the main seat.
pub mod Crews
use Rattle.std.specs.Prelude.{◌≡◌, ℕ, ◌+◌, ◌*◌, ◌≤◌, List, length, Contains}
use Rattle.dpe_base.specs.declared.pair.Pair.{Pair}
use Rattle.dpe_base.specs.declared.TheConstants.{WEIGHT, WORKERS_MAX}
use Rattle.memo_table.specs.Seats.{MemoTable, SeatView, IsSeatOf, BoundsAreMade}
use Rattle.memo_table.specs.Views.{EachOnceBelow, with_floor}
use Rattle.dpe_engine.specs.Working.{IsDone, AreWorkable}
use Rattle.dpe_engine.specs.Rounds.Crews.{IsSplit, AreReady}

-- what a round asks of the main seat
pub record MayWorkRound (model : ℕ) (memo : MemoTable) (workers : ℕ) (group : List Pair) (s : SeatView) : Type 0 where
  pub some : 1 ≤ workers
  pub few : workers ≤ WORKERS_MAX
  pub seat : IsSeatOf memo s
  pub weight : s.view.weight ≡ WEIGHT
  pub allowance : workers * (length group + 1) ≤ s.view.allowance
  pub workable : AreWorkable model group s

-- The tickets are the numbers below the base, the pairs and the workers, each once; the counter was seen there; and each
-- pair is done
pub record HasWorkedRound (model : ℕ) (memo : MemoTable) (base workers : ℕ) (group : List Pair) (before after : SeatView) : Type 0 where
  pub seat : IsSeatOf memo after
  pub weight : after.view.weight ≡ WEIGHT
  pub began : EachOnceBelow base before.view.tickets
  pub reached : before.view.floor ≤ base
  pub floor : after.view.floor ≡ base + length group + workers
  pub made : BoundsAreMade model after.view
  pub tickets : EachOnceBelow (base + length group + workers) after.view.tickets
  pub allowance : after.view.allowance + length group + workers ≡ before.view.allowance
  pub bounds : (b : ℕ × ℕ) → Contains before.view.bounds b → Contains after.view.bounds b
  pub done : (p : Pair) → Contains group p → IsDone model memo.query memo.pairs after.view.bounds p

-- A round is open: the counter was at the base, and each worker has its seat
pub record HasOpenedRound (model : ℕ) (memo : MemoTable) (base workers : ℕ) (group : List Pair) (before after : SeatView) (crew : List SeatView) : Type 0 where
  pub first : SeatView
  pub looked : first.view ≡ with_floor before.view base
  pub some : 1 ≤ workers
  pub weight : before.view.weight ≡ WEIGHT
  pub known : EachOnceBelow base before.view.tickets
  pub reached : before.view.floor ≤ base
  pub split : IsSplit memo first after crew workers (length group + 1)
  pub ready : AreReady model memo base group crew
