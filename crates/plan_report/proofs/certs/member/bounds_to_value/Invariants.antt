use Rattle.std.proofs.Common.{◌≡◌, map, take}
use Rattle.serde_json.specs.View.{view}
use Rattle.plan_report.specs.Json.{whole}
use Rattle.plan_report.proofs.certs.member.bounds_to_value.Given as goal

abbrev pub invariant-bounds : goal.invariant-bounds
invariant-bounds l = map view l.values.items ≡ map whole (take l.bound-index l.bounds)
