use Rattle.std.proofs.Common.{arith}
use Rattle.workload_gen.specs.Draws.{table}
use Rattle.workload_gen.proofs.Lists.{kept, ended}
use Rattle.workload_gen.proofs.draws.tables.Goals as goal

pub tables-preserved : goal.tables-preserved
tables-preserved c = kept (λ t. table) c.tables.counter 8 _ _ _ _ _ _ c.in_ok-push.ensures.items c.table.ensures c.tables-test.true c.tables.invariant

pub returns : goal.returns
returns c = ended (λ t. table) c.tables.counter 8 _ _ _ (omega arith) c.tables.invariant
