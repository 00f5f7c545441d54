use Rattle.std.proofs.Common.{rules, arith, ◌≡◌, ◌⊎◌, ◌∙◌}
use Rattle.dpe_base.specs.declared.TheConstants.{EMPTY}
use Rattle.dpe_base.specs.Queries.{relations}
use Rattle.dpe_base.specs.Sets.{Within, full}
use Rattle.dpe_base.proofs.SizeLaws.{full_below}
use Rattle.join_tree.specs.Trees.{Made}
use Rattle.memo_table.proofs.WordSteps.{offers}
use Rattle.memo_table.proofs.SeatLaws.{seated, made_with_offer, offer_keeps}
use Rattle.memo_table.proofs.memo.Memo.offer.Goals as goal

pub offer-requires-clause-place : goal.offer-requires-clause-place
offer-requires-clause-place g c κs within =
    let inside : Within c.args.s (full (relations c.seat.inside.seat.me.0.query)) = search rules in
    let b = full_below _ _ inside in
    let same : c.seat.inside.seat.table_id ≡ c.self.inside.table.shared.table_id = search rules in
    let w = c.seat.invariant.width in
    let p = c.place_of.ensures in
    rw (← same) (omega arith)

pub offer-requires-clause-kept : goal.offer-requires-clause-kept
offer-requires-clause-kept g c κs within =
    let inside : Within c.args.s (full (relations c.self.inside.table.shared.key.me.0.query)) = search rules in
    let word : (c.args.w ≡ EMPTY) ⊎ Made g.M.CostModel.KIND c.self.inside.table.shared.key.me.0.query c.self.inside.table.shared.key.me.0.pairs c.args.s c.args.w =
    search rules in
    rw c.place_of.ensures (offers _ _ _ _ _ _ _ c.seat.invariant.weight c.requires.some inside word)

pub invariant_of-seat : goal.invariant_of-seat
invariant_of-seat g c =
    let inside : Within c.args.s (full (relations c.seat.inside.seat.me.0.query)) = search rules in
    let q : c.seat.inside.seat.me.0.query ≡ c.args.self.now.query = search rules in
    let p : c.seat.inside.seat.me.0.pairs ≡ c.args.self.now.pairs = search rules in
    let word : (c.args.w ≡ EMPTY) ⊎ Made g.M.CostModel.KIND c.seat.inside.seat.me.0.query c.seat.inside.seat.me.0.pairs c.args.s c.args.w = rw (q, p) c.requires.word in
    let told = c.offer.ensures.told.1 in
    let kept = offer_keeps c.seat.inside.seat.me.0 c.args.s c.args.w in
    seated g.M.CostModel.KIND c.seat.inside.seat _ _ c.seat.invariant c.offer.ensures.table (told.0 ∙ c.seat.invariant.no_slot) (told.1 c.args.s c.place_of.ensures) kept.0 (rw kept.2 c.seat.invariant.weight)
    (made_with_offer g.M.CostModel.KIND c.seat.inside.seat.me.0 c.args.s c.args.w c.seat.invariant.bounds c.requires.some inside word)

pub returns-clause-view : goal.returns-clause-view
returns-clause-view g c = rw (← c.seat.view_is) (c.offer.ensures.told.1.1 c.args.s c.place_of.ensures)
