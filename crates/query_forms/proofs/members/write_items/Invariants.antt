use Rattle.std.proofs.Common.{◌≡◌, ◌++◌, drop, map}
use Rattle.serde_json.specs.View.{items_of}
use Rattle.query_forms.specs.Forms.{each_item}
use Rattle.query_forms.specs.Tokens.{tokens_of_items}
use Rattle.query_forms.proofs.members.write_items.Given as goal

abbrev pub invariant-loop-item : goal.invariant-loop-item
invariant-loop-item g l =
    l.out ++ tokens_of_items (each_item g.T.Object.rewrites (items_of (map g.N.Node.as_data (drop l.item-index l.items))))
    ≡ l.initial.out ++ tokens_of_items (each_item g.T.Object.rewrites (items_of (map g.N.Node.as_data l.items)))
