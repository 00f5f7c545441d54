use Rattle.std.proofs.Common.{◌+◌, ap, sym, subst}
use Rattle.dpe_top.specs.declared.modes.sample.Totals.{Totals}
use Rattle.dpe_top.specs.Modes.Sample.{query_in}
use Rattle.dpe_top.proofs.Sums.{HasSummed, summed_more, summed_same}
use Rattle.dpe_top.proofs.planning.Planning.totals_under.Goals as goal
use Rattle.dpe_top.proofs.planning.Planning.totals_under.Goals.{in-Accepted+in_ok-share, in_default}

pub entries-preserved : goal.entries-preserved
entries-preserved g c =
    elim c.match-entry.branch [
      | in-Accepted+in_ok-share w ↦
          subst (λ (t : Totals). HasSummed g.M.CostModel.KIND c.args.workload.now (c.entries.i + 1) t) (sym w.totals-is)
          (summed_more g.M.CostModel.KIND c.args.workload.now c.entries.i c.entries.totals w.with-totals.result c.entry.result.now w.in-Accepted.named w.in_ok-share.share
          c.entries.invariant c.entry.ensures.value w.in-Accepted.is w.in_ok-share.ensures w.with-totals.ensures.sums (w.with-totals.ensures.small c.entries.i c.entries.invariant.small))
      | in_default w ↦
          subst (λ (t : Totals). HasSummed g.M.CostModel.KIND c.args.workload.now (c.entries.i + 1) t) (sym w.totals-is)
          (summed_same g.M.CostModel.KIND c.args.workload.now c.entries.i c.entries.totals c.entry.result.now c.entries.invariant c.entry.ensures.value (ap query_in w.in_default.is))
    ]
