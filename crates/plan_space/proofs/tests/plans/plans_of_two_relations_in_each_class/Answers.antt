use Rattle.std.proofs.Common.{◌∙◌, ◌≤◌, ap, arith, subst}
use Rattle.dpe_base.specs.Sets.{Has, full, size}
use Rattle.dpe_base.proofs.SizeLaws.{size_full}
use Rattle.plan_space.proofs.Nested.{small_least}
use Rattle.plan_space.proofs.tests.plans.plans_of_two_relations_in_each_class.Goals as goal

pub build_class-requires-clause-least : goal.build_class-requires-clause-least
build_class-requires-clause-least g c κs =
    λ x cx w.
    let few : size x ≤ 2 =
    omega (arith, size_full x c.n.result (λ r h. subst (λ s. Has s r) c.full-all.ensures (w r h)), c.n.ensures.value, c.n-2.ensures.value, c.if-n-gt2.false) in
    rw c.deref.ensures.value
    (small_least _ _ _ x _ few (c.in_ok-words.ensures.words x cx (λ r h. subst (λ s. Has s r) (c.full-all.ensures ∙ ap full c.n.ensures.value) (w r h))))
