use Rattle.std.proofs.Common.{◌≡◌, drop}
use Rattle.serde_json.specs.View.{items_view}
use Rattle.plan_report.specs.Certs.Members.{certificates_of, each_item, member_read}
use Rattle.plan_report.proofs.CertItems.{behind}
use Rattle.plan_report.proofs.certs.member.members_of_values.Given as goal

abbrev pub invariant-values : goal.invariant-values
invariant-values l =
    behind (certificates_of l.members.items) (each_item member_read (items_view (drop l.value-index l.values)))
    ≡ each_item member_read (items_view l.values)
