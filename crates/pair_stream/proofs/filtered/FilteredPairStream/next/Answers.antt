use Rattle.std.proofs.Common.{arith, ◌∙◌, sym}
use Rattle.pair_stream.proofs.FilterSteps.{filter_none, filter_taken, filter_skipped}
use Rattle.pair_stream.proofs.filtered.FilteredPairStream.next.Goals as goal

pub returns-in-None-clause-pair : goal.returns-in-None-clause-pair
returns-in-None-clause-pair g c =
    filter_none (g.T.PairTest.passes c.args.self.now.test) (g.T.PairTest.passes c.skip.self.test) _ _ _ c.skip.invariant.left c.in-None.ensures.pair

pub returns-then-passes-clause-pair : goal.returns-then-passes-clause-pair
returns-then-passes-clause-pair g c =
    filter_taken (g.T.PairTest.passes c.args.self.now.test) (g.T.PairTest.passes c.skip.self.test) _ _ _ c.in-Some.p c.skip.invariant.left c.skip.invariant.test c.in-Some.ensures.pair (sym c.if-passes.true ∙ c.passes.ensures)

pub returns-in-None-clause-forward : goal.returns-in-None-clause-forward
returns-in-None-clause-forward g c = omega (arith, c.skip.invariant.forward, c.next.ensures.forward)

pub returns-then-passes-clause-forward : goal.returns-then-passes-clause-forward
returns-then-passes-clause-forward g c = omega (arith, c.skip.invariant.forward, c.next.ensures.forward)

pub skip-preserved : goal.skip-preserved
skip-preserved g c =
    record {
      left = filter_skipped (g.T.PairTest.passes c.args.self.now.test) (g.T.PairTest.passes c.skip.self.test) _ _ _ c.in-Some.p c.skip.invariant.left c.skip.invariant.test c.in-Some.ensures.pair (sym c.if-passes.false ∙ c.passes.ensures);
      test = c.skip.invariant.test;
      total = c.in-Some.ensures.whole ∙ c.skip.invariant.total;
      forward = omega (arith, c.skip.invariant.forward, c.in-Some.ensures.forward);
      counted = omega (arith, c.in-Some.ensures.counted, c.skip.invariant.counted);
    }
