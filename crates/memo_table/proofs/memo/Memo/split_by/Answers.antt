use Rattle.std.proofs.Common.{rules, arith, ◌≤◌, ◌-◌, refl, ap, ◌∙◌}
use Rattle.memo_table.specs.Steps.{SeatState}
use Rattle.memo_table.specs.Views.{kept_part, given_part}
use Rattle.memo_table.proofs.SeatSteps.{splits}
use Rattle.memo_table.proofs.SeatLaws.{seated}
use Rattle.memo_table.proofs.memo.Memo.split_by.Goals as goal

pub split-part-requires-clause-kept : goal.split-part-requires-clause-kept
split-part-requires-clause-kept g c κs within = splits _ _ _ _ _ (search rules) (search rules)

pub invariant_of-seat : goal.invariant_of-seat
invariant_of-seat g c =
    let e = c.split-part.ensures in
    let heavy : 1 ≤ c.seat.inside.seat.me.0.weight - 1 = search rules in
    seated _ _ _ (kept_part g.D.Given.draws c.seat.inside.seat.me.0) c.seat.invariant e.table.0 (ap {A = SeatState} (λ m. m.1) e.old ∙ c.seat.invariant.no_slot) (ap {A = SeatState} (λ m. m.0) e.old) refl heavy c.seat.invariant.bounds

pub invariant_of-result : goal.invariant_of-result
invariant_of-result g c =
    let e = c.split-part.ensures in
    seated _ c.seat.inside.seat _ (given_part g.D.Given.draws c.seat.inside.seat.me.0) c.seat.invariant e.table.1 (ap {A = SeatState} (λ m. m.1) e.new) (ap {A = SeatState} (λ m. m.0) e.new) refl (omega arith) c.seat.invariant.bounds
