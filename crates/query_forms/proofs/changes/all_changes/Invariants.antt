use Rattle.std.proofs.Common.{◌≡◌, drop, length}
use Rattle.serde_json.specs.View.{items_view}
use Rattle.query_forms.specs.Changes.{all_changes}
use Rattle.query_forms.proofs.ChangeLaws.{in_front}
use Rattle.query_forms.proofs.changes.all_changes.Given as goal

abbrev pub invariant-items : goal.invariant-items
invariant-items l =
    (in_front l.changes.items (all_changes (items_view (drop l.item-index l.items))) ≡ all_changes (items_view l.items))
    × (length l.changes.items ≡ l.item-index)
