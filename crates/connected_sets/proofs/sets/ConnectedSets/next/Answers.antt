use Rattle.std.proofs.Common.{◌-◌, ◌++◌, refl, arith, ap}
use Rattle.connected_sets.specs.Growth.{growth_left}
use Rattle.connected_sets.specs.Lists.{sets_with_least_below}
use Rattle.connected_sets.specs.Left.{sets_left}
use Rattle.connected_sets.proofs.SetSteps.{sets_end, sets_next, start_known, start_some, start_below, head_connected, rest_connected, none_connected}
use Rattle.connected_sets.proofs.sets.ConnectedSets.next.Goals as goal

pub returns-in-Some-clause-fits : goal.returns-in-Some-clause-fits
returns-in-Some-clause-fits c =
    record {
      growth = c.in-Some.ensures.fits;
      relations = c.requires.relations;
      connected = rest_connected c.args.graph.now (sets_left c.args.graph.now c.args.self.now) (sets_left c.args.graph.now (record { growth = c.next.new.self; relations = c.args.self.now.relations })) c.in-Some.s
          c.requires.connected (ap (λ xs. xs ++ sets_with_least_below c.args.graph.now c.args.self.now.relations) c.in-Some.ensures.set);
    }

pub returns-in-Some-clause-connected : goal.returns-in-Some-clause-connected
returns-in-Some-clause-connected c =
    head_connected c.args.graph.now (sets_left c.args.graph.now c.args.self.now) (sets_left c.args.graph.now (record { growth = c.next.new.self; relations = c.args.self.now.relations })) c.in-Some.s
    c.requires.connected (ap (λ xs. xs ++ sets_with_least_below c.args.graph.now c.args.self.now.relations) c.in-Some.ensures.set)

pub returns-then-self-eq0-clause-set : goal.returns-then-self-eq0-clause-set
returns-then-self-eq0-clause-set c = (
  sets_end c.args.graph.now (growth_left c.args.graph.now c.args.self.now.growth) c.args.self.now.relations c.in_default.ensures.set.0 c.if-self-eq0.true,
  sets_end c.args.graph.now (growth_left c.args.graph.now c.next.new.self) c.args.self.now.relations c.in_default.ensures.set.1 c.if-self-eq0.true,
)

pub returns-then-self-eq0-clause-fits : goal.returns-then-self-eq0-clause-fits
returns-then-self-eq0-clause-fits c =
    record {
      growth = c.in_default.ensures.fits;
      relations = c.requires.relations;
      connected = none_connected c.args.graph.now _
          (sets_end c.args.graph.now (growth_left c.args.graph.now c.next.new.self) c.args.self.now.relations c.in_default.ensures.set.1 c.if-self-eq0.true);
    }

pub begin-requires-clause-known : goal.begin-requires-clause-known
begin-requires-clause-known c =
    start_known c.args.graph.now (c.args.self.now.relations - 1) c.single-first.result c.single-first.ensures (omega (arith, c.requires.relations, c.if-self-eq0.false))

pub begin-requires-clause-some : goal.begin-requires-clause-some
begin-requires-clause-some c = start_some (c.args.self.now.relations - 1) c.single-first.result c.single-first.ensures

pub begin-requires-clause-excluded : goal.begin-requires-clause-excluded
begin-requires-clause-excluded c =
    start_below (c.args.self.now.relations - 1) c.single-first.result c.full.result c.single-first.ensures c.full.ensures

pub returns-clause-set : goal.returns-clause-set
returns-clause-set c =
    sets_next c.args.graph.now (growth_left c.args.graph.now c.args.self.now.growth) (growth_left c.args.graph.now c.begin.new.self) c.args.self.now.relations (c.args.self.now.relations - 1) c.single-first.result c.full.result
    c.in_default.ensures.set.0 c.if-self-eq0.false refl c.single-first.ensures c.full.ensures c.begin.ensures.left

pub returns-clause-fits : goal.returns-clause-fits
returns-clause-fits c =
    record {
      growth = c.begin.ensures.fits;
      relations = omega (arith, c.requires.relations);
      connected = rest_connected c.args.graph.now (sets_left c.args.graph.now c.args.self.now) (sets_left c.args.graph.now (record { growth = c.begin.new.self; relations = c.args.self.now.relations - 1 })) c.single-first.result
          c.requires.connected
          (sets_next c.args.graph.now (growth_left c.args.graph.now c.args.self.now.growth) (growth_left c.args.graph.now c.begin.new.self) c.args.self.now.relations (c.args.self.now.relations - 1) c.single-first.result c.full.result
          c.in_default.ensures.set.0 c.if-self-eq0.false refl c.single-first.ensures c.full.ensures c.begin.ensures.left);
    }

pub returns-clause-connected : goal.returns-clause-connected
returns-clause-connected c =
    head_connected c.args.graph.now (sets_left c.args.graph.now c.args.self.now) (sets_left c.args.graph.now (record { growth = c.begin.new.self; relations = c.args.self.now.relations - 1 })) c.single-first.result
    c.requires.connected
    (sets_next c.args.graph.now (growth_left c.args.graph.now c.args.self.now.growth) (growth_left c.args.graph.now c.begin.new.self) c.args.self.now.relations (c.args.self.now.relations - 1) c.single-first.result c.full.result
    c.in_default.ensures.set.0 c.if-self-eq0.false refl c.single-first.ensures c.full.ensures c.begin.ensures.left)
