use Rattle.dpe_engine.proofs.Runs.{run_solved}
use Rattle.dpe_engine.proofs.seeded.SeededEngine.run.Goals as goal

pub returns-clause-solved : goal.returns-clause-solved
returns-clause-solved g c = run_solved _ _ _ _ _ _ _ _ c.opened-shared.ensures.begun c.work_all-producer.ensures.counted c.finish.ensures
