use Rattle.std.proofs.Common.{arith}
use Rattle.dpe_engine.proofs.run.pipeline.fill_and_work.Goals as goal

pub overflow_add-number : goal.overflow_add-number
overflow_add-number g c = let a = c.requires.few in let b = c.requires.at.between.allowance in omega arith
