use Rattle.std.proofs.Common.{rules, ◌+◌, subst, sym, List}
use Rattle.memo_table.specs.Seats.{SeatView}
use Rattle.dpe_engine.specs.Rounds.Crews.{IsSplit}
use Rattle.dpe_engine.proofs.Splits.{split_begins, may_split, split_more}
use Rattle.dpe_engine.proofs.whole_round.crew.split_off.Goals as goal

pub workers-init : goal.workers-init
workers-init g c =
    let F : List SeatView → Type 0 = λ l. IsSplit c.args.memo.now c.args.seat.now c.args.seat.now l 0 c.args.draws in
    record { split = subst F (sym c.requires.empty) (split_begins _ _ _ c.requires.seat); room = search rules }

pub split-part-requires-clause-seat : goal.split-part-requires-clause-seat
split-part-requires-clause-seat g c = λ κs h. c.workers.invariant.split.seat

pub split-part-requires-clause-weight : goal.split-part-requires-clause-weight
split-part-requires-clause-weight g c = λ κs h. (may_split _ _ _ _ _ _ _ c.workers.invariant.split c.workers-test.true c.requires.weight c.requires.allowance).0

pub split-part-requires-clause-allowance : goal.split-part-requires-clause-allowance
split-part-requires-clause-allowance g c = λ κs h. (may_split _ _ _ _ _ _ _ c.workers.invariant.split c.workers-test.true c.requires.weight c.requires.allowance).1

pub workers-preserved : goal.workers-preserved
workers-preserved g c =
    let may = may_split _ _ _ _ _ _ _ c.workers.invariant.split c.workers-test.true c.requires.weight c.requires.allowance in
    let e = c.split-part.ensures in
    let F : List SeatView → Type 0 = λ l. IsSplit c.args.memo.now c.args.seat.now c.split-part.new.seat l (c.workers.counter + 1) c.args.draws in
    record { split = subst F (sym c.push_reserved.ensures.items) (split_more _ _ _ _ _ _ _ _ c.workers.invariant.split may e.table.0 e.table.1 e.old e.new); room = search rules }
