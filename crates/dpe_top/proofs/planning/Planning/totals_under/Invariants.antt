use Rattle.dpe_top.proofs.Sums.{HasSummed}
use Rattle.dpe_top.proofs.planning.Planning.totals_under.Given as goal

abbrev pub invariant-entries : goal.invariant-entries
invariant-entries g l = HasSummed g.M.CostModel.KIND l.workload l.i l.totals
