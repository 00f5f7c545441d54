use Rattle.connected_sets.specs.Growth.{growth_left}
use Rattle.enum_dpccp.proofs.SideSteps.{second_start, starts_known}
use Rattle.enum_dpccp.proofs.sides.SecondSides.begin.Goals as goal

pub returns-clause-left : goal.returns-clause-left
returns-clause-left c =
    second_start c.args.graph.now (growth_left c.args.graph.now c.args.self.now.growth) c.args.a c.excluded-self.result c.neighbours_outside-self.result
    c.requires.spent c.excluded-self.ensures c.neighbours_outside-self.ensures

pub returns-clause-fits : goal.returns-clause-fits
returns-clause-fits c =
    record {
      growth = c.requires.fits.growth;
      starts = starts_known c.args.graph.now c.args.a c.excluded-self.result c.neighbours_outside-self.result c.recall.ensures c.neighbours_outside-self.ensures;
    }
