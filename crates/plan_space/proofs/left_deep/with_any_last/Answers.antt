use Rattle.std.proofs.Common.{arith}
use Rattle.plan_space.proofs.LeftSteps.{in_graph, last_smaller, last_next, last_all, fewer_within}
use Rattle.plan_space.proofs.left_deep.with_any_last.Goals as goal

pub single-requires : goal.single-requires
single-requires g c =
    omega (arith, in_graph c.args.graph.now.n c.args.s c.in-Some.r c.requires.known (c.rest.invariant.within c.in-Some.r c.in-Some.ensures.0), c.recall.ensures.few)

pub with_last-requires-clause-has : goal.with_last-requires-clause-has
with_last-requires-clause-has g c κs within = c.rest.invariant.within c.in-Some.r c.in-Some.ensures.0

pub rest-smaller : goal.rest-smaller
rest-smaller g c = last_smaller c.rest.rest c.in-Some.r c.single.result c.minus-rest.result c.in-Some.ensures.0 c.single.ensures c.minus-rest.ensures

pub rest-preserved : goal.rest-preserved
rest-preserved g c =
    record {
      within = fewer_within c.args.s c.rest.rest c.single.result c.minus-rest.result c.rest.invariant.within c.minus-rest.ensures;
      least = last_next g.M.CostModel.KIND c.args.graph.now c.args.cards.now.rows c.args.words.now c.args.s c.rest.rest c.in-Some.r c.single.result c.minus-rest.result c.rest.least c.with_last.result c.min-least.result c.rest.invariant.within c.in-Some.ensures.0 c.single.ensures c.minus-rest.ensures c.rest.invariant.least c.with_last.ensures c.min-least.ensures;
    }

pub returns : goal.returns
returns g c =
    last_all g.M.CostModel.KIND c.args.graph.now c.args.cards.now.rows c.args.words.now c.args.s c.rest.rest c.rest.least c.in_default.ensures c.rest.invariant.least
