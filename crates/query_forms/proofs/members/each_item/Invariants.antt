use Rattle.std.proofs.Common.{◌≡◌, map, take}
use Rattle.serde_json.specs.View.{view}
use Rattle.query_forms.proofs.members.each_item.Given as goal

abbrev pub invariant-loop-item : goal.invariant-loop-item
invariant-loop-item g l = map view l.rewritten.items ≡ map (λ v. g.T.Object.rewrites (view v)) (take l.item-index l.items)
