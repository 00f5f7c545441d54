use Rattle.std.proofs.Common.{rules, arith, ◌+◌, ◌++◌, List, length, refl, sym, subst}
use Rattle.dpe_base.specs.declared.pair.Pair.{Pair}
use Rattle.dpe_engine.specs.Running.Between.{below, AreLeft, IsBetween, IsToCome}
use Rattle.dpe_engine.specs.Rounds.{MayWorkRound, HasWorkedRound}
use Rattle.dpe_engine.proofs.Advances.{may_work_round, after_round, no_round, next_group}
use Rattle.dpe_engine.proofs.tests.rounds.work_level.Goals as goal

pub returns-then-count-eq0 : goal.returns-then-count-eq0
returns-then-count-eq0 g c =
    let r = c.requires.may in
    let self = c.args.consumer.now in
    record {
      may = record {
        plan = r.plan;
        free = r.free;
        later = r.later;
        at = record { left = r.at.left; between = no_round _ _ c.args.size self.pairs _ self.full.pairs r.later _ r.plan r.at.between (let e = c.count.ensures in let f = c.if-count-eq0.true in omega arith) };
      };
    }

pub round-base-requires-clause-may : goal.round-base-requires-clause-may
round-base-requires-clause-may g c = λ κs within.
    let r = c.requires.may in
    let self = c.args.consumer.now in
    let F : List Pair → Type 0 = λ l. MayWorkRound 0 c.args.shared.now.memo c.args.shared.now.workers l self.seat in
    subst F (sym c.group-group.ensures.group) (may_work_round _ _ c.args.size self.pairs _ _ self.full.pairs r.later _ r.plan r.at.left r.at.between refl)

pub returns : goal.returns
returns g c =
    let r = c.requires.may in
    let shared = c.args.shared.now in
    let self = c.args.consumer.now in
    let H : List Pair → Type 0 = λ l. HasWorkedRound 0 shared.memo c.round-base.result shared.workers l self.seat c.round-base.new.seat in
    let counted = subst H c.group-group.ensures.group c.round-base.ensures.worked in
    let next = next_group _ _ c.args.size self.pairs _ self.full.pairs r.later _
    (after_round _ _ _ c.args.size _ _ self.full.pairs r.later _ _ r.at.between counted (let e = c.count.ensures in let f = c.if-count-eq0.false in omega arith)) in
    let stays = c.group-group.follows.holds-at-none in
    let S : List Pair → Type 0 = λ l. AreLeft shared self.pairs (l ++ r.later) in
    let B : List Pair → Type 0 = λ l. IsBetween 0 shared (IsToCome (c.args.size + 1) l r.later) (self.pairs + length (below (c.args.size + 1) l)) (self.rounds + 1) c.round-base.new.seat in
    record {
      may = record {
        plan = r.plan;
        free = record { empty = c.round-base.ensures.empty; room = search rules };
        later = r.later;
        at = record { left = subst S (sym stays.0) r.at.left; between = subst B (sym stays.0) next };
      };
    }
