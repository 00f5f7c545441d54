use Rattle.std.proofs.Common.{rules, arith, ◌≡◌, ◌≤◌, ◌+◌, refl, ap, ◌∙◌}
use Rattle.memo_table.specs.Steps.{SeatState}
use Rattle.memo_table.specs.Views.{joined_view}
use Rattle.memo_table.proofs.SeatSteps.{joins}
use Rattle.memo_table.proofs.SeatLaws.{seated, made_joined}
use Rattle.memo_table.proofs.memo.Memo.join.Goals as goal

pub join-requires-clause-kept : goal.join-requires-clause-kept
join-requires-clause-kept g c κs within = joins _ _ _ _ _ _ c.seat.invariant.weight

pub invariant_of-seat : goal.invariant_of-seat
invariant_of-seat g c =
    let e = c.join.ensures in
    let q : c.other.inside.seat.me.0.query ≡ c.seat.inside.seat.me.0.query = search rules in
    let p : c.other.inside.seat.me.0.pairs ≡ c.seat.inside.seat.me.0.pairs = search rules in
    let heavy : 1 ≤ c.seat.inside.seat.me.0.weight + c.other.inside.seat.me.0.weight = let h = c.seat.invariant.weight in omega arith in
    seated _ _ _ (joined_view c.seat.inside.seat.me.0 c.other.inside.seat.me.0) c.seat.invariant e.table (ap {A = SeatState} (λ m. m.1) e.view ∙ c.seat.invariant.no_slot) (ap {A = SeatState} (λ m. m.0) e.view) refl heavy
    (made_joined _ c.seat.inside.seat.me.0 c.other.inside.seat.me.0 c.seat.invariant.bounds c.other.invariant.bounds q p)
