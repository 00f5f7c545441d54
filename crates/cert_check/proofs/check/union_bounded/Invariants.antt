use Rattle.std.proofs.Common.{◌-◌}
use Rattle.cert_check.proofs.Splits.{IsTried}
use Rattle.cert_check.proofs.check.union_bounded.Given as goal

abbrev pub invariant-seconds : goal.invariant-seconds
invariant-seconds g l = IsTried g.M.CostModel.KIND l.query l.bounds l.s l.least l.second

abbrev pub decreases-seconds : goal.decreases-seconds
decreases-seconds g l = l.rest - l.second
