use Rattle.std.proofs.Common.{take}
use Rattle.plan_report.specs.Certs.Members.{certificates_of}
use Rattle.dpe_top.specs.Modes.Certify.{AreMembers}
use Rattle.dpe_top.proofs.planning.Planning.members_under.Given as goal

abbrev pub invariant-entries : goal.invariant-entries
invariant-entries g l = AreMembers g.M.CostModel.KIND (take l.i l.workload) (certificates_of l.members.items)
