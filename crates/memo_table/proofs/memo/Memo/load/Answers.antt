use Rattle.std.proofs.Common.{rules, arith, ◌≡◌, Contains, refl, sym, subst, ◌∙◌}
use Rattle.dpe_base.proofs.SizeLaws.{full_below}
use Rattle.join_tree.specs.Trees.{Least}
use Rattle.memo_table.specs.declared.view.View.{View}
use Rattle.memo_table.specs.Seats.{Settled}
use Rattle.memo_table.proofs.Final.{loaded_least}
use Rattle.memo_table.proofs.WordSteps.{loads}
use Rattle.memo_table.proofs.SeatLaws.{seated, made_with_bound}
use Rattle.memo_table.proofs.memo.Memo.load.Goals as goal

pub load-requires-clause-place : goal.load-requires-clause-place
load-requires-clause-place g c κs within =
    let h : Contains c.seat.inside.seat.me.0.bounds (c.args.s, c.requires.held.0) = search rules in
    let b = full_below _ _ (c.seat.invariant.bounds _ h).within in
    let same : c.seat.inside.seat.table_id ≡ c.self.inside.table.shared.table_id = search rules in
    let w = c.seat.invariant.width in
    let p = c.place_of.ensures in
    rw (← same) (omega arith)

pub load-requires-clause-kept : goal.load-requires-clause-kept
load-requires-clause-kept g c κs within =
    let h : Contains c.seat.inside.seat.me.0.bounds (c.args.s, c.requires.held.0) = search rules in
    rw c.place_of.ensures (loads _ _ _ _ _ _ c.requires.held.0 c.seat.invariant.weight h)

pub invariant_of-seat : goal.invariant_of-seat
invariant_of-seat g c =
    let h : Contains c.seat.inside.seat.me.0.bounds (c.args.s, c.requires.held.0) = search rules in
    let b = c.seat.invariant.bounds _ h in
    let told = c.load.ensures.told in
    let found = told.1 c.args.s c.place_of.ensures in
    seated _ _ _ _ c.seat.invariant c.load.ensures.table (told.0 ∙ c.seat.invariant.no_slot) found.view refl c.seat.invariant.weight
    (made_with_bound g.M.CostModel.KIND c.seat.inside.seat.me.0 c.args.s c.load.result c.seat.invariant.bounds b.some b.within found.made)

pub returns-clause-view : goal.returns-clause-view
returns-clause-view g c = let found = c.load.ensures.told.1 c.args.s c.place_of.ensures in rw (← c.seat.view_is) found.view

pub returns-clause-some : goal.returns-clause-some
returns-clause-some g c = let found = c.load.ensures.told.1 c.args.s c.place_of.ensures in let l = found.some in omega arith

pub returns-clause-least : goal.returns-clause-least
returns-clause-least g c = let found = c.load.ensures.told.1 c.args.s c.place_of.ensures in rw (← c.seat.view_is) found.least

pub returns-clause-settled : goal.returns-clause-settled
returns-clause-settled g c settled =
    let found = c.load.ensures.told.1 c.args.s c.place_of.ensures in
    let model = g.M.CostModel.KIND in
    let seen : c.args.seat.now.view ≡ c.seat.inside.seat.me.0 = search rules in
    let F : View → Type 0 = λ v. Settled model v c.args.s → Least model v.query v.pairs c.args.s c.load.result in
    let least = subst F (sym seen) (λ x. loaded_least model c.seat.inside.seat.me.0 c.args.s c.load.result x found.made found.least) settled in
    rw (← c.requires.seat.query, ← c.requires.seat.pairs) least
