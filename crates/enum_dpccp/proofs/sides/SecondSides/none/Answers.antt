use Rattle.std.proofs.Common.{subst, sym, ℕ}
use Rattle.dpe_base.specs.Sets.{Within, full}
use Rattle.connected_sets.specs.Growth.{growth_left}
use Rattle.connected_sets.proofs.GrowthLaws.{within_empty}
use Rattle.enum_dpccp.proofs.SideSteps.{second_end}
use Rattle.enum_dpccp.proofs.sides.SecondSides.none.Goals as goal

pub returns-clause-left : goal.returns-clause-left
returns-clause-left c =
    second_end c.args.graph.now (growth_left c.args.graph.now c.spent.result) c.empty.result c.empty-2.result c.spent.ensures.left c.empty-2.ensures

pub returns-clause-fits : goal.returns-clause-fits
returns-clause-fits c =
    record {
      growth = c.spent.ensures.fits;
      starts = subst (λ (s : ℕ). Within s (full c.args.graph.now.n)) (sym c.empty-2.ensures) (within_empty (full c.args.graph.now.n));
    }
