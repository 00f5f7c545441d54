use Rattle.connected_sets.proofs.GrowthLaws.{begun_left, begun_fits}
use Rattle.connected_sets.proofs.growth.Growth.begin.Goals as goal

pub returns-clause-left : goal.returns-clause-left
returns-clause-left c =
    begun_left c.args.graph.now c.args.self.now.calling.items c.args.s c.neighbours_outside-neighbours.result c.args.x c.union.result c.empty.result
    c.recall.ensures c.requires.empty c.neighbours_outside-neighbours.ensures c.union.ensures c.empty.ensures

pub returns-clause-fits : goal.returns-clause-fits
returns-clause-fits c =
    let fits =
    begun_fits c.args.graph.now c.args.self.now.calling.items c.args.s c.neighbours_outside-neighbours.result c.args.x c.union.result c.empty.result
    c.recall.ensures c.requires.empty c.requires.known c.requires.some c.requires.excluded c.neighbours_outside-neighbours.ensures c.union.ensures c.empty.ensures in
    record { calling = fits.0; giving = fits.1 }
