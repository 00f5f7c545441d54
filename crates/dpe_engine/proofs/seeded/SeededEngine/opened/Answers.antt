use Rattle.std.proofs.Common.{refl}
use Rattle.dpe_engine.proofs.Runs.{begins, has_begun}
use Rattle.dpe_engine.proofs.seeded.SeededEngine.opened.Goals as goal

pub returns-clause-running : goal.returns-clause-running
returns-clause-running g c =
    let d = c.drawn.ensures in
    rw (c.exchange-producer.ensures.producer, c.exchange-producer.ensures.consumer)
    (begins _ _ _ _ _ _ c.self.invariant (rw (← c.self.view_is) at c.requires.rest) _ _ _ _ _ _ refl refl c.fill-producer.ensures.filled d.table d.view d.made)

pub returns-clause-begun : goal.returns-clause-begun
returns-clause-begun g c =
    rw (c.exchange-producer.ensures.producer, c.exchange-producer.ensures.consumer, ← c.self.view_is)
    (has_begun _ _ _ _ _ _ c.self.invariant (rw (← c.self.view_is) at c.requires.rest) _ _ _ _ c.drawn.new.seat refl refl c.fill-producer.ensures.filled)
