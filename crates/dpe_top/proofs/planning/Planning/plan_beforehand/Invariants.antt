use Rattle.std.proofs.Common.{◌-◌, ◌≤◌, length}
use Rattle.dpe_top.proofs.planning.Planning.plan_beforehand.Given as goal

abbrev pub invariant-places : goal.invariant-places
invariant-places g l = length l.places.items ≤ length l.workload

abbrev pub decreases-places : goal.decreases-places
decreases-places g l = length l.workload - length l.places.items
