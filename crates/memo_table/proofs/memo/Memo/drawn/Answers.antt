use Rattle.std.proofs.Common.{refl, ◌∙◌}
use Rattle.memo_table.proofs.CounterSteps.{sees_drawn}
use Rattle.memo_table.proofs.SeatLaws.{seated}
use Rattle.memo_table.proofs.memo.Memo.drawn.Goals as goal

pub drawn-requires-clause-kept : goal.drawn-requires-clause-kept
drawn-requires-clause-kept g c κs within = sees_drawn _ _ _ _ _ c.seat.invariant.weight

pub invariant_of-seat : goal.invariant_of-seat
invariant_of-seat g c = let told = c.drawn.ensures.told in
    seated _ _ _ _ c.seat.invariant c.drawn.ensures.table (told.0 ∙ c.seat.invariant.no_slot) told.1.view refl c.seat.invariant.weight c.seat.invariant.bounds

pub returns-clause-made : goal.returns-clause-made
returns-clause-made g c = (invariant_of-seat g c).bounds
