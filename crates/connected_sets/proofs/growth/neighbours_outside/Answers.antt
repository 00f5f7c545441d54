use Rattle.std.proofs.Common.{◌∙◌, ap}
use Rattle.dpe_base.specs.Sets.{minus}
use Rattle.pair_stream.proofs.ConnectivityLaws.{neighbours_one}
use Rattle.connected_sets.proofs.growth.neighbours_outside.Goals as goal

pub returns : goal.returns
returns c =
    c.minus.ensures ∙ ap (λ s. minus s c.args.x) (neighbours_one c.args.graph.now c.args.s c.neighbours.result c.recall.ensures c.neighbours.ensures)
