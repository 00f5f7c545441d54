use Rattle.std.proofs.Common.{ap, ◌∙◌, ◌++◌}
use Rattle.std.proofs.lemmas.Result.{IfOk-weaker}
use Rattle.serde_json.specs.Written.{compact_text}
use Rattle.plan_report.specs.Texts.{newline}
use Rattle.plan_report.specs.Json.{report_line}
use Rattle.plan_report.proofs.Plain.{report_plain}
use Rattle.plan_report.proofs.report.Report.json.Goals as goal

pub line_of-requires : goal.line_of-requires
line_of-requires c = report_plain c.args.self.entries.items _ c.in_ok-whole.ensures c.args.self.plain

pub returns : goal.returns
unfolding report_line
returns c = IfOk-weaker c.line_of.result _ _ (λ v e. e ∙ ap (λ d. compact_text d ++ newline) c.in_ok-whole.ensures) c.line_of.ensures
