use Rattle.std.proofs.Common.{◌≡◌, ◌∙◌, refl, arith}
use Rattle.card_scaled.specs.Cards.{card}
use Rattle.card_scaled.proofs.SparseSteps.{card_none, top_known, rest_within, rest_smaller, before_near, card_by_rest}
use Rattle.card_scaled.proofs.factors.Factors.+card.Goals as goal
use Rattle.card_scaled.proofs.factors.Factors.+card.Goals.{in-Some-find, in-None}

pub returns-in_default : goal.returns-in_default
returns-in_default t c = card_none c.args.query.now c.args.s _ c.in_default.ensures c.one.ensures

pub single-requires : goal.single-requires
single-requires t c =
    omega (arith, (top_known c.args.query.now c.recall.ensures c.args.s c.in-Some.r _ _ c.requires.within c.in-Some.ensures refl refl).1)

pub card-before-requires : goal.card-before-requires
card-before-requires t c = (
  omega (arith, c.decreases, rest_smaller c.args.query.now c.recall.ensures c.args.s c.in-Some.r c.single.result c.minus-rest.result c.requires.within c.in-Some.ensures c.single.ensures c.minus-rest.ensures),
  (
    c.requires.factors,
    (
      c.requires.known,
      rest_within c.args.query.now c.recall.ensures c.args.s c.in-Some.r c.single.result c.minus-rest.result c.requires.within c.in-Some.ensures c.single.ensures c.minus-rest.ensures,
    ),
  ),
)

pub with_relation-requires-clause-known : goal.with_relation-requires-clause-known
with_relation-requires-clause-known t c =
    (top_known c.args.query.now c.recall.ensures c.args.s c.in-Some.r c.single.result c.minus-rest.result c.requires.within c.in-Some.ensures c.single.ensures c.minus-rest.ensures).0

pub with_relation-requires-clause-near : goal.with_relation-requires-clause-near
with_relation-requires-clause-near t c =
    let before : c.match-find.before ≡ card c.args.query.now c.minus-rest.result = elim c.match-find.branch [
      | in-Some-find w ↦ w.before-is ∙ (w.in-Some-find.ensures c.args.query.now c.requires.known).card
      | in-None w ↦ w.before-is ∙ w.card-before.ensures
    ] in
    before_near c.args.query.now c.recall.ensures c.args.s c.in-Some.r c.single.result c.minus-rest.result c.requires.within c.in-Some.ensures c.single.ensures c.minus-rest.ensures c.match-find.before before

pub returns : goal.returns
returns t c =
    let before : c.match-find.before ≡ card c.args.query.now c.minus-rest.result = elim c.match-find.branch [
      | in-Some-find w ↦ w.before-is ∙ (w.in-Some-find.ensures c.args.query.now c.requires.known).card
      | in-None w ↦ w.before-is ∙ w.card-before.ensures
    ] in
    card_by_rest c.args.query.now c.recall.ensures c.args.s c.in-Some.r c.single.result c.minus-rest.result c.requires.within c.in-Some.ensures c.single.ensures c.minus-rest.ensures c.match-find.before _ before c.with_relation.ensures
