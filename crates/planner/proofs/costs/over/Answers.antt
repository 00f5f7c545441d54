use Rattle.planner.proofs.costs.over.Goals as goal

pub prepare-requires-clause-within : goal.prepare-requires-clause-within
prepare-requires-clause-within g c κs within = λ p. (c.requires.stream.complete.members p).0
