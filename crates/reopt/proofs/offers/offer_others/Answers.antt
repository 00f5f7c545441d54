use Rattle.std.proofs.Common.{arith, ◌≡◌, ◌+◌, ◌^◌, ◌<◌, ℕ, List, refl, sym, ◌∙◌, ap, subst}
use Rattle.dpe_base.specs.Queries.{relations}
use Rattle.dpe_base.specs.Sets.{Has, full}
use Rattle.join_tree.specs.Trees.{IsEmptyOrMade}
use Rattle.dpe_engine.specs.Engines.{EnginePlan, SeededPlan}
use Rattle.reopt.specs.Offers.{HasOffered}
use Rattle.reopt.proofs.WordOffers.{offers_next, skips, full_next, number_within, small_end, not_both}
use Rattle.reopt.proofs.offers.offer_others.Goals.{then-not-has, else-not-has}
use Rattle.reopt.proofs.offers.offer_others.Goals as goal

pub overflow_add-end : goal.overflow_add-end
overflow_add-end g c = let a = small_end c.args.n c.bits-end.result c.requires.n.1 (c.bits-end.ensures ∙ c.full.ensures) in omega arith

pub bounds-words-bits : goal.bounds-words-bits
bounds-words-bits g c =
    let a = c.sets-test.true in let b : c.bits-end.result ≡ full c.args.n = c.bits-end.ensures ∙ c.full.ensures in let e = full_next c.args.n in let f = c.requires.size in omega arith

pub offer-requires-clause-within : goal.offer-requires-clause-within
offer-requires-clause-within g c κs within =
    let a = c.sets-test.true in let b : c.bits-end.result ≡ full c.args.n = c.bits-end.ensures ∙ c.full.ensures in let e = full_next c.args.n in
    let low : c.of_bits-set.result < 2 ^ c.args.n = let f = c.of_bits-set.ensures in omega arith in
    let same : c.args.n ≡ relations c.sets.engine.plan.query = c.requires.n.0 ∙ ap (λ (p : EnginePlan). relations p.query) (sym c.sets.invariant.plan) in
    rw (← same) (number_within c.of_bits-set.result c.args.n low)

pub offer-requires-clause-word : goal.offer-requires-clause-word
offer-requires-clause-word g c κs within =
    let a = c.sets-test.true in let b : c.bits-end.result ≡ full c.args.n = c.bits-end.ensures ∙ c.full.ensures in let e = full_next c.args.n in
    let low : c.sets.bits < 2 ^ c.args.n = omega arith in
    let none : Has c.sets.bits c.args.r → ⊥ = λ h. not_both c.has.result c.if-not-has.true (c.has.ensures.1 (subst (λ x. Has x c.args.r) (sym c.of_bits-set.ensures) h)) in
    rw (c.of_bits-set.ensures, c.sets.invariant.plan) (c.requires.words c.sets.bits low none)

pub sets-preserved : goal.sets-preserved
sets-preserved g c =
    let now = c.sets.engine in
    let F : SeededPlan → Type 0 = λ e. HasOffered c.args.r c.args.words.now c.args.engine.now e (c.sets.bits + 1) in
    elim c.if-not-has.branch [
      | then-not-has w ↦ subst F (sym w.engine-is)
          (offers_next c.args.r c.args.words.now c.args.engine.now now c.sets.bits c.sets.invariant w.offer.new.self c.of_bits-set.result _ c.of_bits-set.ensures refl w.offer.ensures.plan w.offer.ensures.words)
      | else-not-has w ↦ subst F (sym w.engine-is)
          (skips c.args.r c.args.words.now c.args.engine.now now c.sets.bits c.sets.invariant (subst (λ x. Has x c.args.r) c.of_bits-set.ensures (c.has.ensures.0 w.if-not-has.false)))
    ]

pub returns : goal.returns
returns g c =
    let a = c.sets-test.false in let b : c.bits-end.result ≡ full c.args.n = c.bits-end.ensures ∙ c.full.ensures in let e = full_next c.args.n in
    let end = c.sets.auto.bits-end in
    let same : c.sets.bits ≡ 2 ^ c.args.n = omega arith in
    let F : ℕ → Type 0 = HasOffered c.args.r c.args.words.now c.args.engine.now c.sets.engine in
    subst F same c.sets.invariant
