use Rattle.std.proofs.Common.{map, ap, ◌∙◌, arith}
use Rattle.serde_json.specs.View.{items_of, view}
use Rattle.std.proofs.lemmas.List.{take_all}
use Rattle.query_forms.proofs.Items.{each_item_view}
use Rattle.query_forms.proofs.members.each_item.Goals as goal

pub returns : goal.returns
returns g c =
    let f = g.T.Object.rewrites in
    ap items_of c.loop-item.invariant ∙ ap (λ vs. items_of (map (λ v. f (view v)) vs)) (take_all c.loop-item.item-index c.args.items.now (omega (arith, c.loop-item-test.false))) ∙ each_item_view f c.args.items.now
