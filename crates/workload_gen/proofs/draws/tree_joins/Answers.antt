use Rattle.std.proofs.Common.{arith}
use Rattle.workload_gen.specs.Draws.{tree_join}
use Rattle.workload_gen.proofs.Lists.{kept, ended}
use Rattle.workload_gen.proofs.draws.tree_joins.Goals as goal

pub joins-preserved : goal.joins-preserved
joins-preserved c = kept tree_join c.joins.i c.args.n _ _ _ _ _ _ c.in_ok-push.ensures.items c.tree_join.ensures c.joins-test.true c.joins.invariant

pub returns : goal.returns
returns c = ended tree_join c.joins.i c.args.n _ _ _ (omega arith) c.joins.invariant
