use Rattle.std.proofs.Common.{◌∙◌}
use Rattle.card_scaled.proofs.TableRows.{copy_has_no_fault}
use Rattle.dpe_top.proofs.modes.replan.copy_of.Goals as goal

pub unreachable-requires : goal.unreachable-requires
unreachable-requires c =
    copy_has_no_fault c.args.query.now c.in_ok-rels.rels.items c.in_ok-preds.preds.items c.in-Err.field-0 c.recall.ensures
    (c.in_ok-rels.ensures.items_if_clones_equal (λ x y e. e) ∙ c.rels.ensures.value)
    (c.in_ok-preds.ensures.items_if_clones_equal (λ x y e. e) ∙ c.preds.ensures.value)
    c.in-Err.ensures.err
