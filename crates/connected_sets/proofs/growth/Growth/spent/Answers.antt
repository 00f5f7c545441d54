use Rattle.connected_sets.proofs.GrowthLaws.{spent_fits, spent_left}
use Rattle.connected_sets.proofs.growth.Growth.spent.Goals as goal

pub returns-clause-left : goal.returns-clause-left
returns-clause-left c = spent_left c.args.graph.now c.spent.result c.new.result.items c.spent.ensures c.new.ensures

pub returns-clause-fits : goal.returns-clause-fits
returns-clause-fits c =
    let fits = spent_fits c.args.graph.now c.spent.result c.new.result.items c.recall.ensures c.spent.ensures c.new.ensures in
    record { calling = fits.0; giving = fits.1 }
