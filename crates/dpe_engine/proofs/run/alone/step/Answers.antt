use Rattle.std.proofs.Common.{arith}
use Rattle.dpe_engine.proofs.Runs.{goes_on, same_counts, fewer}
use Rattle.dpe_engine.proofs.run.alone.step.Goals as goal

pub overflow_add-consumer : goal.overflow_add-consumer
overflow_add-consumer g c = let a = c.requires.running.few in let b = c.requires.running.at.between.allowance in omega arith

pub returns-clause-running : goal.returns-clause-running
returns-clause-running g c =
    rw (c.exchange.ensures.producer, c.exchange.ensures.consumer) (goes_on _ _ _ _ _ _ c.requires.running _ c.work_buffer-worked.ensures _ c.requires.full c.fill-filled.ensures.filled)

pub returns-clause-totals : goal.returns-clause-totals
returns-clause-totals g c =
    rw (c.exchange.ensures.producer, c.exchange.ensures.consumer) (same_counts _ _ _ _ _ _ c.requires.running _ c.work_buffer-worked.ensures _ c.requires.full c.fill-filled.ensures.filled)

pub returns-clause-fewer : goal.returns-clause-fewer
returns-clause-fewer g c =
    rw (c.exchange.ensures.producer, c.exchange.ensures.consumer) (fewer _ _ _ _ _ _ c.requires.running _ c.work_buffer-worked.ensures _ c.requires.full c.fill-filled.ensures.filled)
