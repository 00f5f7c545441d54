use Rattle.std.proofs.Common.{◌∙◌, sym}
use Rattle.std.proofs.lemmas.Bool.{not-true, not-false}
use Rattle.query_json.proofs.Keys.{one_more, met_again}
use Rattle.query_json.proofs.names.distinct.Goals as goal

pub returns-then-not-branch : goal.returns-then-not-branch
returns-then-not-branch g c =
    let met = not-false _ (sym c.in_ok-insert.ensures.added ∙ c.if-not-branch.true) in
    rw (c.in_ok-copied.ensures, c.name-name.ensures)
    (met_again g.T.HasName.label c.loop-item.names.keys c.args.items.now c.loop-item.item-index c.item-item.result _ _ c.loop-item-test.true c.item-item.is c.name-name.ensures met c.loop-item.invariant)

pub loop-item-preserved : goal.loop-item-preserved
loop-item-preserved g c =
    let new = not-true _ (sym c.in_ok-insert.ensures.added ∙ c.if-not-branch.false) in
    one_more g.T.HasName.label c.loop-item.names.keys c.insert.new.self.keys c.args.items.now c.loop-item.item-index c.item-item.result c.name-name.result _ c.loop-item-test.true c.item-item.is c.name-name.ensures new
    c.in_ok-insert.ensures.keys c.loop-item.invariant
