use Rattle.dpe_engine.specs.Running.Between.{MayWorkGroup}
use Rattle.dpe_engine.proofs.tests.rounds.meets_in_each_round.Given as goal

abbrev pub invariant-sizes : goal.invariant-sizes
invariant-sizes g l = MayWorkGroup 0 l.shared l.size l.consumer
