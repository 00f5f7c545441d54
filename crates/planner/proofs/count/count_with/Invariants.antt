use Rattle.std.proofs.Common.{◌≡◌, ◌+◌, length}
use Rattle.planner.proofs.count.count_with.Given as goal

abbrev pub invariant-pairs : goal.invariant-pairs
invariant-pairs g l = l.count + length (g.P.PairStream.left l.stream) ≡ length (g.P.PairStream.left l.fn.stream)

abbrev pub decreases-pairs : goal.decreases-pairs
decreases-pairs g l = length (g.P.PairStream.left l.stream)
