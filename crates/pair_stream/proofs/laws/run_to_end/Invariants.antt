use Rattle.std.proofs.Common.{◌≡◌, length}
use Rattle.pair_stream.proofs.laws.run_to_end.Given as goal

abbrev pub invariant-pairs : goal.invariant-pairs
invariant-pairs g l = g.S.PairStream.total l.stream ≡ g.S.PairStream.total l.fn.stream

abbrev pub decreases-pairs : goal.decreases-pairs
decreases-pairs g l = length (g.S.PairStream.left l.stream)
