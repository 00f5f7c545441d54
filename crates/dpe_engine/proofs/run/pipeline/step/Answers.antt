use Rattle.dpe_engine.proofs.Runs.{goes_on, same_counts, fewer}
use Rattle.dpe_engine.proofs.run.pipeline.step.Goals as goal

pub returns-clause-running : goal.returns-clause-running
returns-clause-running g c =
    let e = c.fill_and_work-producer.ensures in
    rw (c.exchange.ensures.producer, c.exchange.ensures.consumer) (goes_on _ _ _ _ _ _ c.requires.running _ e.worked _ c.requires.full e.filled)

pub returns-clause-totals : goal.returns-clause-totals
returns-clause-totals g c =
    let e = c.fill_and_work-producer.ensures in
    rw (c.exchange.ensures.producer, c.exchange.ensures.consumer) (same_counts _ _ _ _ _ _ c.requires.running _ e.worked _ c.requires.full e.filled)

pub returns-clause-fewer : goal.returns-clause-fewer
returns-clause-fewer g c =
    let e = c.fill_and_work-producer.ensures in
    rw (c.exchange.ensures.producer, c.exchange.ensures.consumer) (fewer _ _ _ _ _ _ c.requires.running _ e.worked _ c.requires.full e.filled)
