use Rattle.std.proofs.Common.{rules, refl, ◌∙◌}
use Rattle.memo_table.proofs.CounterSteps.{draws}
use Rattle.memo_table.proofs.SeatLaws.{seated}
use Rattle.memo_table.proofs.memo.Memo.draw.Goals as goal

pub draw-requires-clause-kept : goal.draw-requires-clause-kept
draw-requires-clause-kept g c κs within = draws _ _ _ _ _ c.seat.invariant.weight (search rules)

pub invariant_of-seat : goal.invariant_of-seat
invariant_of-seat g c = let told = c.draw.ensures.told in
    seated _ _ _ _ c.seat.invariant c.draw.ensures.table (told.0 ∙ c.seat.invariant.no_slot) told.1.view refl c.seat.invariant.weight c.seat.invariant.bounds
