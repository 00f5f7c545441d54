use Rattle.std.proofs.Common.{◌∙◌, ap, sym}
use Rattle.dpe_base.specs.Sets.{full}
use Rattle.plan_report.proofs.Heights.{full_some}
use Rattle.plan_report.proofs.measured.rows_of_all.Goals as goal

pub rows_once-requires-clause-some : goal.rows_once-requires-clause-some
rows_once-requires-clause-some c = λ e. full_some c.n.ensures.valid.some (sym (c.full-all.ensures ∙ ap full c.n.ensures.value) ∙ e)
