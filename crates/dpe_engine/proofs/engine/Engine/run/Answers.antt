use Rattle.dpe_engine.proofs.Ends.{stream_rest, stream_solved}
use Rattle.dpe_engine.proofs.engine.Engine.run.Goals as goal

pub run-requires-clause-rest : goal.run-requires-clause-rest
run-requires-clause-rest g c = λ κs within. stream_rest _ _ _ _ c.self.view_is c.requires.named c.self.invariant

pub returns-clause-solved : goal.returns-clause-solved
returns-clause-solved g c = stream_solved _ _ _ _ _ c.self.view_is c.requires.named c.run.ensures.solved
