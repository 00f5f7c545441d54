use Rattle.std.proofs.Common.{◌≡◌, ◌++◌, length}
use Rattle.pair_stream.proofs.collect.collect_counting.Given as goal

abbrev pub invariant-pairs : goal.invariant-pairs
invariant-pairs g l = record {
  given : g.S.PairStream.left l.fn.stream ≡ l.pairs.items ++ g.S.PairStream.left l.stream;
  total : g.S.PairStream.total l.stream ≡ g.S.PairStream.total l.fn.stream;
}

abbrev pub decreases-pairs : goal.decreases-pairs
decreases-pairs g l = length (g.S.PairStream.left l.stream)
