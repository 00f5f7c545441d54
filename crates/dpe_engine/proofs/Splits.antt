-- Seats are split off, one for each worker.
use Rattle.std.proofs.Common.{◌≡◌, ℕ, suc, ◌+◌, ◌*◌, ◌<◌, ◌≤◌, List, [], ◌∷◌, ◌++◌, Contains, length, refl, ap, ◌∙◌, sym, subst, arith, length-append, mul-le-mul_right, suc-mul}
use Rattle.std.proofs.lemmas.List.Elements.{All-nil, All-push, All-weaker}
use Rattle.dpe_base.specs.declared.pair.Pair.{Pair}
use Rattle.memo_table.specs.declared.view.View.{View}
use Rattle.memo_table.specs.Seats.{MemoTable, SeatView, IsSeatOf}
use Rattle.memo_table.specs.Views.{kept_part, given_part}
use Rattle.dpe_engine.specs.Working.{AreWorkable, IsReady}
use Rattle.dpe_engine.specs.Rounds.{MayWorkRound}
use Rattle.dpe_engine.specs.Rounds.Crews.{AreReady, IsWorkerSeat, IsSplit}
use Rattle.dpe_engine.proofs.PairSteps.{stays_settled}

pub split_begins : (memo : MemoTable) (before : SeatView) (draws : ℕ) → IsSeatOf memo before → IsSplit memo before before [] 0 draws
split_begins memo before draws seat =
    record {
      seat = seat;
      bounds = refl;
      tickets = refl;
      floor = refl;
      weight = omega arith;
      allowance = omega arith;
      size = refl;
      each = All-nil (IsWorkerSeat memo before draws);
    }

-- what a split asks, while workers are left
pub may_split : (memo : MemoTable) (before now : SeatView) (crew : List SeatView) (i workers draws : ℕ) → IsSplit memo before now crew i draws → i < workers → workers + 1 ≤ before.view.weight → workers * draws ≤ before.view.allowance
    → (2 ≤ now.view.weight) × (draws ≤ now.view.allowance)
may_split memo before now crew i workers draws s h weight allowance = (
  (let w = s.weight in omega arith),
  (let a = s.allowance in let m : suc i * draws ≤ workers * draws = mul-le-mul_right draws h in let e = suc-mul i draws in omega arith),
)

pub split_more : (memo : MemoTable) (before now after part : SeatView) (crew : List SeatView) (i draws : ℕ) → IsSplit memo before now crew i draws → (2 ≤ now.view.weight) × (draws ≤ now.view.allowance)
    → after.table ≡ now.table → part.table ≡ now.table → after.view ≡ kept_part draws now.view → part.view ≡ given_part draws now.view → IsSplit memo before after (crew ++ part ∷ []) (i + 1) draws
split_more memo before now after part crew i draws s may at pt av pv =
    record {
      seat = record { table = at ∙ s.seat.table; query = ap (λ (v : View). v.query) av ∙ s.seat.query; pairs = ap (λ (v : View). v.pairs) av ∙ s.seat.pairs };
      bounds = ap (λ (v : View). v.bounds) av ∙ s.bounds;
      tickets = ap (λ (v : View). v.tickets) av ∙ s.tickets;
      floor = ap (λ (v : View). v.floor) av ∙ s.floor;
      weight = let a = ap (λ (v : View). v.weight) av in let b = s.weight in let m = may.0 in omega arith;
      allowance = let a = ap (λ (v : View). v.allowance) av in let b = s.allowance in let m = may.1 in omega (arith, suc-mul i draws);
      size = let l = length-append crew (part ∷ []) in let z = s.size in omega arith;
      each = All-push (IsWorkerSeat memo before draws) crew part s.each record {
        seat = record { table = pt ∙ s.seat.table; query = ap (λ (v : View). v.query) pv ∙ s.seat.query; pairs = ap (λ (v : View). v.pairs) pv ∙ s.seat.pairs };
        floor = ap (λ (v : View). v.floor) pv ∙ s.floor;
        weight = ap (λ (v : View). v.weight) pv;
        tickets = ap (λ (v : View). v.tickets) pv;
        bounds = ap (λ (v : View). v.bounds) pv ∙ s.bounds;
        allowance = ap (λ (v : View). v.allowance) pv;
      };
    }

-- pairs that can be worked from one seat can be worked from another that knows as much
pub stay_workable : (model : ℕ) (group : List Pair) (s t : SeatView) → t.view.query ≡ s.view.query → t.view.pairs ≡ s.view.pairs → ((b : ℕ × ℕ) → Contains s.view.bounds b → Contains t.view.bounds b) → AreWorkable model group s → AreWorkable model group t
stay_workable model group s t query pairs grow w =
    record {
      listed = λ p c. rw pairs (w.listed p c);
      sides = λ p c. (stays_settled model s.view t.view p.a query pairs grow (w.sides p c).0, stays_settled model s.view t.view p.b query pairs grow (w.sides p c).1);
    }

-- the crew is ready
pub crew_ready : (model : ℕ) (memo : MemoTable) (base workers : ℕ) (group : List Pair) (first split : SeatView) (crew : List SeatView) → MayWorkRound model memo workers group first → first.view.floor ≡ base
    → IsSplit memo first split crew workers (length group + 1) → AreReady model memo base group crew
crew_ready model memo base workers group first split crew m floor s = All-weaker (IsWorkerSeat memo first (length group + 1)) (IsReady model memo base group) one crew s.each
  where
    one : (c : SeatView) → IsWorkerSeat memo first (length group + 1) c → IsReady model memo base group c
    one c p =
        record {
          seat = p.seat;
          floor = let f = p.floor in omega arith;
          weight = let w = p.weight in omega arith;
          allowance = let a = p.allowance in omega arith;
          workable = stay_workable model group first c (p.seat.query ∙ sym m.seat.query) (p.seat.pairs ∙ sym m.seat.pairs) (λ b has. let F : List (ℕ × ℕ) → Type 0 = λ l. Contains l b in subst F (sym p.bounds) has) m.workable;
        }
