use Rattle.std.proofs.Common.{arith}
use Rattle.workload_gen.specs.Draws.{query}
use Rattle.workload_gen.proofs.Lists.{kept, ended}
use Rattle.workload_gen.proofs.draws.queries.Goals as goal

pub queries-preserved : goal.queries-preserved
queries-preserved c = kept (λ j. query) c.queries.counter 8 _ _ _ _ _ _ c.in_ok-push.ensures.items c.in_ok-query.ensures c.queries-test.true c.queries.invariant

pub returns : goal.returns
returns c = ended (λ j. query) c.queries.counter 8 _ _ _ (omega arith) c.queries.invariant
