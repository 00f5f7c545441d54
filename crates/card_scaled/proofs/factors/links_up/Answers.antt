use Rattle.std.proofs.Common.{◌∙◌, ap}
use Rattle.card_scaled.proofs.SparseSteps.{link_pushed, link_passed}
use Rattle.card_scaled.proofs.factors.links_up.Goals as goal
use Rattle.card_scaled.proofs.factors.links_up.Goals.{then-p-r+in_ok-push, else-p-r}

pub loop-p-preserved : goal.loop-p-preserved
loop-p-preserved c =
    elim c.if-p-r.branch [
      | then-p-r+in_ok-push w ↦ link_pushed c.preds-preds.result.now c.args.query.now.preds c.args.r c.loop-p.p-index _ _ c.loop-p.links.items _ c.preds-preds.ensures.value c.loop-p-test.true c.loop-p.invariant w.if-p-r.true (ap (λ f. record { low = _; fraction = f }) w.frac-fraction.ensures) (ap (λ v. v.items) w.links-is ∙ w.in_ok-push.ensures.items)
      | else-p-r w ↦ link_passed c.preds-preds.result.now c.args.query.now.preds c.args.r c.loop-p.p-index _ c.loop-p.links.items _ c.preds-preds.ensures.value c.loop-p-test.true c.loop-p.invariant w.if-p-r.false (ap (λ v. v.items) w.links-is)
    ]
