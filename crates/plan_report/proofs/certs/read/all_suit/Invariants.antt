use Rattle.std.proofs.Common.{◌≡◌, drop}
use Rattle.plan_report.specs.Certs.{all_suit}
use Rattle.plan_report.specs.Certs.Members.{certificates_of}
use Rattle.plan_report.proofs.certs.read.all_suit.Given as goal

abbrev pub invariant-members : goal.invariant-members
invariant-members l =
    all_suit (drop l.i l.workload) (certificates_of (drop l.i l.members)) ≡ all_suit l.workload (certificates_of l.members)
