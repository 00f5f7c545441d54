use Rattle.std.proofs.Common.{rules, arith, ◌+◌, ◌++◌, List, length, refl, sym, ◌∙◌, subst}
use Rattle.std.proofs.lemmas.List.{take_at}
use Rattle.dpe_base.specs.declared.pair.Pair.{Pair}
use Rattle.memo_table.specs.Seats.{SeatView}
use Rattle.dpe_engine.specs.Running.Between.{below, AreLeft, IsBetween, IsToCome}
use Rattle.dpe_engine.specs.Rounds.{MayWorkRound, HasWorkedRound}
use Rattle.dpe_engine.specs.Rounds.Crews.{HaveWorked}
use Rattle.dpe_engine.proofs.Advances.{may_work_round, after_round, no_round, next_group}
use Rattle.dpe_engine.proofs.Members.{counted_some, counted_none}
use Rattle.dpe_engine.proofs.run.consumer.Consumer.work_group.Goals as goal

pub returns-then-count-eq0-clause-at : goal.returns-then-count-eq0-clause-at
returns-then-count-eq0-clause-at g c = λ later at.
    let self = c.args.self.now in
    record {
      left = at.left;
      between = no_round _ _ c.args.size self.pairs _ self.full.pairs later _ c.requires.may.plan at.between (let e = c.count.ensures in let f = c.if-count-eq0.true in omega arith);
    }

pub returns-then-count-eq0-clause-counted : goal.returns-then-count-eq0-clause-counted
returns-then-count-eq0-clause-counted g c = counted_none c.args.size c.args.self.now.rounds c.args.self.now.full.pairs (let e = c.count.ensures in let f = c.if-count-eq0.true in omega arith)

pub open_round-base-requires-clause-may : goal.open_round-base-requires-clause-may
open_round-base-requires-clause-may g c =
    let r = c.requires.may in
    let F : List Pair → Type 0 = λ l. MayWorkRound g.M.CostModel.KIND c.args.shared.now.memo c.args.shared.now.workers l c.args.self.now.seat in λ κs within.
    subst F (sym c.group-group.ensures.group) (may_work_round _ _ c.args.size c.args.self.now.pairs _ _ c.args.self.now.full.pairs r.later _ r.plan r.at.left r.at.between refl)

pub returns-clause-at : goal.returns-clause-at
returns-clause-at g c = λ later at.
    let model = g.M.CostModel.KIND in
    let shared = c.args.shared.now in
    let self = c.args.self.now in
    let group = c.group-group.result.now in
    let base = c.open_round-base.result in
    let changed : HaveWorked model base group c.as_mut_slice.result.now c.for_each_mut.new.s = search rules in
    let F : List SeatView → Type 0 = λ l. HaveWorked model base group l c.for_each_mut.new.s in
    let worked : HaveWorked model base group c.open_round-base.new.crew.items c.for_each_mut.new.s = subst F c.as_mut_slice.ensures.value changed in
    let G : List SeatView → Type 0 = λ l. HaveWorked model base group c.open_round-base.new.crew.items l in
    let round = c.close_round.ensures.worked base shared.workers group self.seat c.open_round-base.new.crew.items c.open_round-base.ensures.opened
    (subst G (sym (take_at c.for_each_mut.new.s _ _ (changed.size ∙ c.as_mut_slice.ensures.len))) worked) in
    let H : List Pair → Type 0 = λ l. HasWorkedRound model shared.memo base shared.workers l self.seat c.close_round.new.seat in
    let counted = subst H c.group-group.ensures.group round in
    let next = next_group _ _ c.args.size self.pairs _ self.full.pairs later _
    (after_round _ _ _ c.args.size _ _ self.full.pairs later _ _ at.between counted (let e = c.count.ensures in let f = c.if-count-eq0.false in omega arith)) in
    let stays = c.group-group.follows.holds-at-none in
    let S : List Pair → Type 0 = λ l. AreLeft shared self.pairs (l ++ later) in
    let B : List Pair → Type 0 = λ l. IsBetween model shared (IsToCome (c.args.size + 1) l later) (self.pairs + length (below (c.args.size + 1) l)) (self.rounds + 1) c.close_round.new.seat in
    record { left = subst S (sym stays.0) at.left; between = subst B (sym stays.0) next }

pub returns-clause-counted : goal.returns-clause-counted
returns-clause-counted g c = counted_some c.args.size c.args.self.now.rounds c.args.self.now.full.pairs (let e = c.count.ensures in let f = c.if-count-eq0.false in omega arith)
