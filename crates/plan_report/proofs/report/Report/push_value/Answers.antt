use Rattle.plan_report.proofs.Plain.{plain_either}
use Rattle.plan_report.proofs.report.Report.push_value.Goals as goal

pub invariant_of-self : goal.invariant_of-self
invariant_of-self c = record { plain = rw c.push.ensures.items (plain_either _ c.args.self.now.entries.items c.args.entry c.args.self.now.plain c.requires) }
