use Rattle.std.proofs.Common.{arith}
use Rattle.workload_gen.specs.Draws.{relation}
use Rattle.workload_gen.proofs.Lists.{kept, ended}
use Rattle.workload_gen.proofs.draws.relations.Goals as goal

pub relations-preserved : goal.relations-preserved
relations-preserved c = kept (λ i. relation) c.relations.counter c.args.n _ _ _ _ _ _ c.in_ok-push.ensures.items c.relation.ensures c.relations-test.true c.relations.invariant

pub returns : goal.returns
returns c = ended (λ i. relation) c.relations.counter c.args.n _ _ _ (omega arith) c.relations.invariant
