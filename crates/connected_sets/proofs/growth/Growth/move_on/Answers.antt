use Rattle.std.proofs.Common.{◌≡◌, ◌∙◌, sym, length, []}
use Rattle.std.proofs.lemmas.Bool.{false≢true, eqb-true}
use Rattle.connected_sets.specs.Growth.{calling_left, CallFits, CallsFit}
use Rattle.connected_sets.proofs.GrowthLaws.{spare_left, calls_begin, fits_begin, popped, none_left, spent_left, spent_fits, outer_left, all_left}
use Rattle.connected_sets.proofs.growth.Growth.move_on.Goals as goal

pub returns-then-is_empty-clause-none : goal.returns-then-is_empty-clause-none
returns-then-is_empty-clause-none c =
    λ _. spare_left c.args.graph.now c.args.self.now.giving c.args.self.now.calling.items c.requires.given (sym c.bits.ensures ∙ c.if-bits-eq0.true) (eqb-true _ _ (sym c.is_empty.ensures ∙ c.if-is_empty.true))

pub calls-init : goal.calls-init
calls-init c =
    record {
      calling = c.requires.fits.calling;
      call = fits_begin c.args.graph.now (length c.args.self.now.calling.items) c.args.self.now.giving c.empty.result c.requires.fits.giving c.empty.ensures;
      left = calls_begin c.args.graph.now c.args.self.now.giving c.empty.result c.args.self.now.calling.items c.requires.given c.empty.ensures;
    }

pub returns-in-None-clause-left : goal.returns-in-None-clause-left
returns-in-None-clause-left c =
    let none : (calling_left c.args.graph.now c.calls.self.calling.items ≡ []) × (c.pop.new.self.items ≡ []) =
    none_left c.args.graph.now c.calls.self.calling.items c.pop.new.self.items c.in-None.ensures.items (λ l. false≢true (c.in-None.ensures.variant.1 l)) in
    spent_left c.args.graph.now c.spent-self.result c.pop.new.self.items c.spent-self.ensures none.1
    ∙ sym (c.calls.invariant.left ∙ all_left c.args.graph.now c.calls.self.calling.items c.calls.call c.in_default.ensures.none none.0)

pub returns-in-None-clause-fits : goal.returns-in-None-clause-fits
returns-in-None-clause-fits c =
    let none : (calling_left c.args.graph.now c.calls.self.calling.items ≡ []) × (c.pop.new.self.items ≡ []) =
    none_left c.args.graph.now c.calls.self.calling.items c.pop.new.self.items c.in-None.ensures.items (λ l. false≢true (c.in-None.ensures.variant.1 l)) in
    let fits = spent_fits c.args.graph.now c.spent-self.result c.pop.new.self.items c.recall.ensures c.spent-self.ensures none.1 in
    record { calling = fits.0; giving = fits.1 }

pub returns-in-None-clause-none : goal.returns-in-None-clause-none
returns-in-None-clause-none c =
    let none : (calling_left c.args.graph.now c.calls.self.calling.items ≡ []) × (c.pop.new.self.items ≡ []) =
    none_left c.args.graph.now c.calls.self.calling.items c.pop.new.self.items c.in-None.ensures.items (λ l. false≢true (c.in-None.ensures.variant.1 l)) in
    λ _. spent_left c.args.graph.now c.spent-self.result c.pop.new.self.items c.spent-self.ensures none.1

pub calls-preserved : goal.calls-preserved
calls-preserved c =
    let fits : CallsFit c.args.graph.now 0 c.pop.new.self.items × CallFits c.args.graph.now (length c.pop.new.self.items) c.in-Some-pop.outer =
    popped c.args.graph.now c.calls.self.calling.items c.pop.new.self.items c.in-Some-pop.outer c.calls.invariant.calling c.in-Some-pop.ensures.items in
    record {
      calling = fits.0;
      call = fits.1;
      left = c.calls.invariant.left ∙ outer_left c.args.graph.now c.calls.self.calling.items c.pop.new.self.items c.calls.call c.in-Some-pop.outer c.in_default.ensures.none c.in-Some-pop.ensures.items;
    }
