use Rattle.std.proofs.Common.{◌≡◌, subst}
use Rattle.dpe_engine.specs.Engines.{SeededPlan, with_word}
use Rattle.dpe_engine.proofs.Runs.{prepared_still, offered_in}
use Rattle.dpe_engine.proofs.seeded.SeededEngine.offer.Goals as goal

pub invariant_of-self : goal.invariant_of-self
invariant_of-self g c = prepared_still g.M.CostModel.KIND _ _ _ c.self.inside.consumer _ c.args.s c.args.w c.self.invariant c.offer.ensures.table c.offer.ensures.view

pub returns-clause-words : goal.returns-clause-words
returns-clause-words g c =
    let F : SeededPlan → Type 0 = λ e. c.offer.new.seat.view.bounds ≡ with_word e.words c.args.s c.args.w in
    subst F c.self.view_is (offered_in c.self.inside.consumer.seat.view _ c.args.s c.args.w c.offer.ensures.view)
