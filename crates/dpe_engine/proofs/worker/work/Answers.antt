use Rattle.std.proofs.Common.{rules, arith, ◌≡◌, ◌<◌, ◌≤◌, ◌+◌, ℕ, Bool, false, cond, List, [], ◌∷◌, ◌-◌, length, length-append, get_or, sym, ap, ◌∙◌, subst}
use Rattle.std.proofs.lemmas.List.{drop_all}
use Rattle.dpe_engine.proofs.Bursts.{IsWorking}
use Rattle.dpe_engine.proofs.Bursts.{begins, draws_in, draws_out, less, place_inside, may_draw, may_work, works_on, ends, works_at, full_some}
use Rattle.dpe_engine.proofs.worker.work.Goals.{then-draws-test+else-not-is_full, else-draws-test}
use Rattle.dpe_engine.proofs.worker.work.Goals as goal

pub bursts-init : goal.bursts-init
bursts-init g c = begins _ _ _ _

pub draws-init : goal.draws-init
draws-init g c =
    let F : List ℕ → Type 0 = λ l. IsWorking g.M.CostModel.KIND c.args.base c.args.pairs.now c.args.seat.now c.bursts.seat l c.bursts.over in
    record {
      working = subst F (sym c.clear.ensures) c.bursts.invariant;
      spent = let e : cond c.bursts.over 1 0 + 0 ≡ 0 = ap (λ (b : Bool). cond b 1 0 + 0) c.bursts-test.true in let l = ap (λ (l : List ℕ). length l) c.clear.ensures in omega arith;
    }

pub draw-ticket-requires-clause-seat : goal.draw-ticket-requires-clause-seat
draw-ticket-requires-clause-seat g c = λ κs h.
    let F : Bool → Type 0 = λ b. IsWorking g.M.CostModel.KIND c.args.base c.args.pairs.now c.args.seat.now c.draws.seat c.draws.places.items b in
    (may_draw _ _ _ _ _ _ _ c.requires.ready (subst F c.draws-test.true c.draws.invariant.working)).0

pub draws-preserved-then-place-pairs : goal.draws-preserved-then-place-pairs
draws-preserved-then-place-pairs g c =
    let e = c.draw-ticket.ensures in
    let F : Bool → Type 0 = λ b. IsWorking g.M.CostModel.KIND c.args.base c.args.pairs.now c.args.seat.now c.draws.seat c.draws.places.items b in
    let o = subst F c.draws-test.true c.draws.invariant.working in
    let G : List ℕ → Type 0 = λ l. IsWorking g.M.CostModel.KIND c.args.base c.args.pairs.now c.args.seat.now c.draw-ticket.new.seat l false in
    let H : Bool → Type 0 = λ b. IsWorking g.M.CostModel.KIND c.args.base c.args.pairs.now c.args.seat.now c.draw-ticket.new.seat c.push.new.self.items b in
    record {
      working = subst H (sym c.draws-test.true) (subst G (sym c.push.ensures.items) (draws_in _ _ _ _ _ _ _ c.requires.ready o _ _ e.table e.view e.floor e.above c.if-place-pairs.true));
      spent = let a = less _ _ _ _ _ _ _ c.requires.ready o _ _ e.table e.view e.floor e.above in let s = c.draws.invariant.spent in let l = c.push.ensures.len in
          let n = ap (λ (l : List ℕ). length l) c.push.ensures.items in let m = length-append c.draws.places.items ((c.draw-ticket.result - c.args.base) ∷ []) in omega arith;
    }

pub draws-preserved : goal.draws-preserved
draws-preserved g c =
    let e = c.draw-ticket.ensures in
    let F : Bool → Type 0 = λ b. IsWorking g.M.CostModel.KIND c.args.base c.args.pairs.now c.args.seat.now c.draws.seat c.draws.places.items b in
    let o = subst F c.draws-test.true c.draws.invariant.working in
    record {
      working = draws_out _ _ _ _ _ _ _ c.requires.ready o _ _ e.table e.view e.floor e.above c.if-place-pairs.false;
      spent = let a = less _ _ _ _ _ _ _ c.requires.ready o _ _ e.table e.view e.floor e.above in let s = c.draws.invariant.spent in
          let z : cond c.draws.over 1 0 + 0 ≡ 0 = ap (λ (b : Bool). cond b 1 0 + 0) c.draws-test.true in omega arith;
    }

pub bounds-pairs-deref : goal.bounds-pairs-deref
bounds-pairs-deref g c =
    let inside : c.works.i < length c.draws.places.items = let a = c.works-test.true in let b = c.len-i-end.ensures.value in omega arith in
    place_inside _ _ _ _ _ _ _ _ _ c.requires.ready (works_at _ _ _ _ _ _ _ _ _ c.works.invariant.working c.deref.ensures.0 inside)

pub offset_bounds-pairs-deref : goal.offset_bounds-pairs-deref
offset_bounds-pairs-deref g c =
    let inside : c.works.i < length c.draws.places.items = let a = c.works-test.true in let b = c.len-i-end.ensures.value in omega arith in
    let low : get_or c.deref.result.now c.works.i 0 < length c.args.pairs.now = place_inside _ _ _ _ _ _ _ _ _ c.requires.ready (works_at _ _ _ _ _ _ _ _ _ c.works.invariant.working c.deref.ensures.0 inside) in
    search rules

pub work_pair-requires-clause-seat : goal.work_pair-requires-clause-seat
work_pair-requires-clause-seat g c κs within =
    let inside : c.works.i < length c.draws.places.items = let a = c.works-test.true in let b = c.len-i-end.ensures.value in omega arith in
    let o = works_at _ _ _ _ _ _ _ _ _ c.works.invariant.working c.deref.ensures.0 inside in
    (may_work _ _ _ _ _ _ _ _ _ c.requires.ready o _ c.index-pairs-deref.is).seat

pub work_pair-requires-clause-listed : goal.work_pair-requires-clause-listed
work_pair-requires-clause-listed g c κs within =
    let inside : c.works.i < length c.draws.places.items = let a = c.works-test.true in let b = c.len-i-end.ensures.value in omega arith in
    let o = works_at _ _ _ _ _ _ _ _ _ c.works.invariant.working c.deref.ensures.0 inside in
    (may_work _ _ _ _ _ _ _ _ _ c.requires.ready o _ c.index-pairs-deref.is).listed

pub work_pair-requires-clause-first : goal.work_pair-requires-clause-first
work_pair-requires-clause-first g c κs within =
    let inside : c.works.i < length c.draws.places.items = let a = c.works-test.true in let b = c.len-i-end.ensures.value in omega arith in
    let o = works_at _ _ _ _ _ _ _ _ _ c.works.invariant.working c.deref.ensures.0 inside in
    (may_work _ _ _ _ _ _ _ _ _ c.requires.ready o _ c.index-pairs-deref.is).first

pub work_pair-requires-clause-second : goal.work_pair-requires-clause-second
work_pair-requires-clause-second g c κs within =
    let inside : c.works.i < length c.draws.places.items = let a = c.works-test.true in let b = c.len-i-end.ensures.value in omega arith in
    let o = works_at _ _ _ _ _ _ _ _ _ c.works.invariant.working c.deref.ensures.0 inside in
    (may_work _ _ _ _ _ _ _ _ _ c.requires.ready o _ c.index-pairs-deref.is).second

pub works-preserved : goal.works-preserved
works-preserved g c =
    let inside : c.works.i < length c.draws.places.items = let a = c.works-test.true in let b = c.len-i-end.ensures.value in omega arith in
    let o = works_at _ _ _ _ _ _ _ _ _ c.works.invariant.working c.deref.ensures.0 inside in
    record {
      working = works_on _ _ _ _ _ _ _ _ _ c.requires.ready o _ _ c.index-pairs-deref.is c.work_pair.ensures;
      same = let a = c.work_pair.ensures.drawn.allowance in let s = c.works.invariant.same in omega arith;
    }

pub bursts-preserved : goal.bursts-preserved
bursts-preserved g c =
    let high : length c.draws.places.items ≤ c.works.i = let a = c.works-test.false in let b = c.len-i-end.ensures.value in omega arith in
    let F : List ℕ → Type 0 = λ l. IsWorking g.M.CostModel.KIND c.args.base c.args.pairs.now c.args.seat.now c.works.seat l c.draws.over in
    subst F (drop_all _ _ high) c.works.invariant.working

pub bursts-smaller : goal.bursts-smaller
bursts-smaller g c =
    let s = c.draws.invariant.spent in let t = c.works.invariant.same in
    elim c.draws-test.branch [
      | then-draws-test+else-not-is_full w ↦ let n = full_some _ (sym w.is_full.ensures.value ∙ w.if-not-is_full.false) in omega arith
      | else-draws-test w ↦ let z : cond c.draws.over 1 0 + 0 ≡ 1 = ap (λ (b : Bool). cond b 1 0 + 0) w.draws-test.false in omega arith
    ]

pub returns : goal.returns
returns g c = let F : Bool → Type 0 = λ b. IsWorking g.M.CostModel.KIND c.args.base c.args.pairs.now c.args.seat.now c.bursts.seat [] b in ends _ _ _ _ _ (subst F c.bursts-test.false c.bursts.invariant)
