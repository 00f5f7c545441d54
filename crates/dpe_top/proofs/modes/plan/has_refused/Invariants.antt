use Rattle.std.proofs.Common.{◌≡◌, false, take}
use Rattle.dpe_top.specs.Modes.Report.{has_refused}
use Rattle.dpe_top.proofs.modes.plan.has_refused.Given as goal

abbrev pub invariant-loop-i : goal.invariant-loop-i
invariant-loop-i l = has_refused (take l.i l.workload) ≡ false
