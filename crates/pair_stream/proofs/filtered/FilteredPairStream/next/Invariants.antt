use Rattle.std.proofs.Common.{◌≡◌, ◌+◌, ◌≤◌, length}
use Rattle.std.specs.List.{filter}
use Rattle.pair_stream.proofs.filtered.FilteredPairStream.next.Given as goal

abbrev pub invariant-skip : goal.invariant-skip
invariant-skip g l = record {
  left : filter (g.T.PairTest.passes l.fn.self.test) (g.P.PairStream.left l.fn.self.inner) ≡ filter (g.T.PairTest.passes l.fn.self.test) (g.P.PairStream.left l.self.inner);
  test : g.T.PairTest.passes l.self.test ≡ g.T.PairTest.passes l.fn.self.test;
  total : g.P.PairStream.total l.self.inner ≡ g.P.PairStream.total l.fn.self.inner;
  forward : l.fn.steps ≤ l.steps;
  counted : l.steps + g.P.PairStream.probed l.fn.self.inner ≡ l.fn.steps + g.P.PairStream.probed l.self.inner;
}

abbrev pub decreases-skip : goal.decreases-skip
decreases-skip g l = length (g.P.PairStream.left l.self.inner)
