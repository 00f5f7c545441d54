use Rattle.dpe_engine.proofs.Ends.{stream_rest, stream_solved}
use Rattle.dpe_engine.proofs.engine.Engine.run_alone.Goals as goal

pub run_alone-requires-clause-rest : goal.run_alone-requires-clause-rest
run_alone-requires-clause-rest g c = λ κs within. stream_rest _ _ _ _ c.self.view_is c.requires.named c.self.invariant

pub returns-clause-solved : goal.returns-clause-solved
returns-clause-solved g c = stream_solved _ _ _ _ _ c.self.view_is c.requires.named c.run_alone.ensures.solved
