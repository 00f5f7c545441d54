use Rattle.std.proofs.Common.{length}
use Rattle.connected_sets.specs.Left.{sets_left, SetsFit}
use Rattle.connected_sets.proofs.tests.listed.Given as goal

abbrev pub invariant-sets : goal.invariant-sets
invariant-sets l = SetsFit l.graph l.sets

abbrev pub decreases-sets : goal.decreases-sets
decreases-sets l = length (sets_left l.graph l.sets)
