use Rattle.dpe_top.proofs.Checking.{HaveChecked}
use Rattle.dpe_top.proofs.modes.check.verdicts_under.Given as goal

abbrev pub invariant-members : goal.invariant-members
invariant-members g l = HaveChecked g.M.CostModel.KIND l.certs.workload l.certs.certs l.i l.verdicts
