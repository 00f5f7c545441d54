use Rattle.std.proofs.Common.{arith}
use Rattle.connected_sets.specs.Growth.{growth_left}
use Rattle.connected_sets.proofs.SetSteps.{sets_start, start_connected}
use Rattle.connected_sets.proofs.sets.ConnectedSets.over.Goals as goal

pub returns-clause-left : goal.returns-clause-left
returns-clause-left c =
    sets_start c.args.graph.now (growth_left c.args.graph.now c.spent.result) c.n.result c.spent.ensures.left c.n.ensures.value

pub returns-clause-fits : goal.returns-clause-fits
returns-clause-fits c =
    record {
      growth = c.spent.ensures.fits;
      relations = omega (arith, c.n.ensures.value);
      connected = start_connected c.args.graph.now _ c.n.ensures.valid
          (sets_start c.args.graph.now (growth_left c.args.graph.now c.spent.result) c.n.result c.spent.ensures.left c.n.ensures.value);
    }
