use Rattle.std.proofs.Common.{◌∙◌}
use Rattle.json.specs.Value.{value_view}
use Rattle.query_json.proofs.TreeLaws.{same_member, seen_found}
use Rattle.query_json.proofs.walk.node.JsonValueNode.member.Goals as goal

pub returns : goal.returns
returns c = seen_found c.get.result _ c.get.ensures ∙ same_member c.args.name.now (value_view c.args.self.now)
