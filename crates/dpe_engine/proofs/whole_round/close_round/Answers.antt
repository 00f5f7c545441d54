use Rattle.dpe_engine.proofs.Rounds.{closes}
use Rattle.dpe_engine.proofs.whole_round.close_round.Goals as goal

pub returns-clause-worked : goal.returns-clause-worked
returns-clause-worked g c = λ base workers group before opened o w.
    closes _ _ _ _ _ _ _ _ _ _ _ _ o w c.gather.ensures.gathered c.drawn.ensures.all c.drawn.ensures.table c.drawn.ensures.view c.drawn.ensures.made
