use Rattle.std.proofs.Common.{◌≡◌, drop}
use Rattle.serde_json.specs.View.{items_view}
use Rattle.plan_report.specs.Certs.Members.{bound_read, each_item}
use Rattle.plan_report.proofs.CertItems.{behind}
use Rattle.plan_report.proofs.certs.member.bounds_of_values.Given as goal

abbrev pub invariant-values : goal.invariant-values
invariant-values l =
    behind l.bounds.items (each_item bound_read (items_view (drop l.value-index l.values))) ≡ each_item bound_read (items_view l.values)
