use Rattle.std.proofs.Common.{◌∙◌, ap, subst}
use Rattle.dpe_base.specs.Sets.{Has, full}
use Rattle.plan_space.proofs.tests.plans.the_left_deep_plan_is_built_from_its_words.Goals as goal

pub build_class-requires-clause-least : goal.build_class-requires-clause-least
build_class-requires-clause-least g c κs =
    λ x cx w. rw c.deref.ensures.value (c.in_ok-words.ensures.words x cx (λ r h. subst (λ s. Has s r) (c.full-all.ensures ∙ ap full c.n.ensures.value) (w r h)))
