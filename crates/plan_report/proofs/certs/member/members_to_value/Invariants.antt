use Rattle.std.proofs.Common.{◌≡◌, map, take}
use Rattle.serde_json.specs.View.{view}
use Rattle.plan_report.specs.Certs.Members.{certificates_of, member_written}
use Rattle.plan_report.proofs.certs.member.members_to_value.Given as goal

abbrev pub invariant-certs : goal.invariant-certs
invariant-certs l = map view l.values.items ≡ map member_written (certificates_of (take l.cert-index l.certs))
