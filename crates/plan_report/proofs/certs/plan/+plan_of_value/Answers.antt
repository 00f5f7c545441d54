use Rattle.std.proofs.Common.{◌≡◌, ◌≢◌, ◌∙◌, length, ap, arith, rules}
use Rattle.serde_json.specs.View.{view}
use Rattle.serde_json.proofs.Views.{view-Array}
use Rattle.plan_report.specs.Certs.Plans.{plan_read}
use Rattle.plan_report.proofs.CertPlans.{not_three}
use Rattle.plan_report.proofs.certs.plan.+plan_of_value.Goals as goal
use Rattle.plan_report.proofs.certs.plan.+plan_of_value.Goals.{in_default-as_slice-via-then-as_slice-lt3, in_default-as_slice-via-else-as_slice-lt3+else-this-lt4}

pub returns-in_default-as_slice : goal.returns-in_default-as_slice
returns-in_default-as_slice t c =
    let other : length c.in-Array.items.items ≢ 3 =
    elim c.in_default-as_slice.branch [
      | in_default-as_slice-via-then-as_slice-lt3 w ↦ λ e. first_of (grind (arith, e, c.as_slice.ensures.value), search (rules, arith))
      | in_default-as_slice-via-else-as_slice-lt3+else-this-lt4 w ↦
          λ e. first_of (grind (arith, e, c.as_slice.ensures.value), search (rules, arith))
    ] in
    ap plan_read (ap view c.in-Array.is ∙ view-Array c.in-Array.items) ∙ not_three c.in-Array.items.items other
