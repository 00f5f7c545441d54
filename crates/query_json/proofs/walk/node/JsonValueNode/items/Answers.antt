use Rattle.std.proofs.Common.{◌∙◌, Some, ap, sym}
use Rattle.serde_json.specs.Find.{as_array}
use Rattle.query_json.specs.Walk.Tree.{seen, seen_items}
use Rattle.query_json.proofs.TreeLaws.{seen_array}
use Rattle.query_json.proofs.walk.node.JsonValueNode.items.Goals as goal

pub returns-in-Array : goal.returns-in-Array
returns-in-Array c = ap (λ vs. Some (seen_items vs)) c.as_slice.ensures.value ∙ sym (ap (λ v. as_array (seen v)) c.in-Array.is ∙ seen_array c.in-Array.items)
