use Rattle.std.proofs.Common.{◌∙◌, refl, ap, subst, arith}
use Rattle.std.proofs.lemmas.Bool.{iff_false, false≢true}
use Rattle.dpe_base.specs.Sets.{IsNextSubset, minus, single}
use Rattle.dpe_base.proofs.SetLaws.{minus_left, full_limit}
use Rattle.dpe_base.proofs.NextSubset.{within_le}
use Rattle.dpe_base.specs.Queries.{relations}
use Rattle.cert_check.proofs.Splits.{no_union, none_tried, one_more_tried, all_tried, one_fails, split_whole}
use Rattle.cert_check.proofs.check.union_bounded.Goals as goal

pub returns-in_default : goal.returns-in_default
returns-in_default g c =
    (λ _. no_union g.M.CostModel.KIND c.args.query.now c.args.bounds.now c.args.s c.in_default.ensures, λ _. refl)

pub single-requires : goal.single-requires
single-requires g c =
    omega (arith, full_limit (relations c.args.query.now) c.in-Some-least.least (c.requires.within c.in-Some-least.least c.in-Some-least.ensures.0), c.recall.ensures.few)

pub seconds-init : goal.seconds-init
seconds-init g c = none_tried g.M.CostModel.KIND c.args.query.now c.args.bounds.now c.args.s c.in-Some-least.least _ c.empty-second.ensures

pub pair_bounded-requires-clause-first : goal.pair_bounded-requires-clause-first
pair_bounded-requires-clause-first g c κs within = rw c.minus.ensures (λ r h. c.requires.within r (minus_left c.args.s c.in-Some-next_subset.next r h))

pub pair_bounded-requires-clause-second : goal.pair_bounded-requires-clause-second
pair_bounded-requires-clause-second g c κs within =
    λ r h. c.requires.within r (minus_left c.args.s (single c.in-Some-least.least) r
    ((subst (λ x. IsNextSubset c.seconds.second x c.in-Some-next_subset.next) (c.minus-rest.ensures ∙ ap (minus c.args.s) c.single.ensures) c.in-Some-next_subset.ensures.next).within r h))

pub pair_bounded-requires-clause-whole : goal.pair_bounded-requires-clause-whole
pair_bounded-requires-clause-whole g c κs within =
    let step : IsNextSubset c.seconds.second (minus c.args.s (single c.in-Some-least.least)) c.in-Some-next_subset.next =
    subst (λ x. IsNextSubset c.seconds.second x c.in-Some-next_subset.next) (c.minus-rest.ensures ∙ ap (minus c.args.s) c.single.ensures) c.in-Some-next_subset.ensures.next in
    rw (c.minus.ensures, split_whole c.args.s c.in-Some-least.least c.in-Some-next_subset.next step.within) c.in-Some.ensures

pub returns-then-not-pair_bounded : goal.returns-then-not-pair_bounded
returns-then-not-pair_bounded g c =
    let step : IsNextSubset c.seconds.second (minus c.args.s (single c.in-Some-least.least)) c.in-Some-next_subset.next =
    subst (λ x. IsNextSubset c.seconds.second x c.in-Some-next_subset.next) (c.minus-rest.ensures ∙ ap (minus c.args.s) c.single.ensures) c.in-Some-next_subset.ensures.next in (
      λ t. absurd (false≢true t),
      λ all. absurd (one_fails g.M.CostModel.KIND c.args.query.now c.args.bounds.now c.args.s c.in-Some-least.least c.seconds.second c.in-Some-next_subset.next
          c.in-Some.ensures.connected c.in-Some-least.ensures step (iff_false (rw c.minus.ensures at c.pair_bounded.ensures) c.if-not-pair_bounded.true) all),
    )

pub seconds-smaller : goal.seconds-smaller
seconds-smaller g c =
    omega (arith, within_le c.in-Some-next_subset.next c.minus-rest.result c.in-Some-next_subset.ensures.next.within, c.in-Some-next_subset.ensures.next.greater)

pub seconds-preserved : goal.seconds-preserved
seconds-preserved g c =
    let step : IsNextSubset c.seconds.second (minus c.args.s (single c.in-Some-least.least)) c.in-Some-next_subset.next =
    subst (λ x. IsNextSubset c.seconds.second x c.in-Some-next_subset.next) (c.minus-rest.ensures ∙ ap (minus c.args.s) c.single.ensures) c.in-Some-next_subset.ensures.next in
    one_more_tried g.M.CostModel.KIND c.args.query.now c.args.bounds.now c.args.s c.in-Some-least.least c.seconds.second c.in-Some-next_subset.next
    c.in-Some-least.ensures c.seconds.invariant step ((rw c.minus.ensures at c.pair_bounded.ensures).0 c.if-not-pair_bounded.false)

pub returns : goal.returns
returns g c = (
  λ _. all_tried g.M.CostModel.KIND c.args.query.now c.args.bounds.now c.args.s c.in-Some-least.least c.seconds.second c.in-Some-least.ensures
      c.seconds.invariant (c.in_default-next_subset.ensures.last.0 refl ∙ (c.minus-rest.ensures ∙ ap (minus c.args.s) c.single.ensures)),
  λ _. refl,
)
