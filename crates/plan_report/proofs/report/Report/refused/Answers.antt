use Rattle.plan_report.proofs.Plain.{refused_plain}
use Rattle.plan_report.proofs.report.Report.refused.Goals as goal

pub push_value-requires : goal.push_value-requires
push_value-requires c = refused_plain c.in_ok-entry-in-Json.entry _ _ c.in_ok-entry-in-Json.ensures
