use Rattle.std.proofs.Common.{arith, subst, sym, ◌^◌}
use Rattle.card_scaled.specs.Scaled.{IsNear, ScaledNumber}
use Rattle.card_scaled.proofs.ScaledLaws.{norm_near, frac_near, one_near}
use Rattle.card_scaled.proofs.NearLaws.{near_more}
use Rattle.card_scaled.proofs.tests.products_by_their_top_digits.Goals as goal

pub mul-requires-clause-near : goal.mul-requires-clause-near
mul-requires-clause-near g c =
    subst (λ (x : ScaledNumber). IsNear (2 ^ 24) x.scale) (sym c.one-one.ensures) (near_more 31 (2 ^ 24) _ one_near (omega arith))

pub mul-requires-clause-other_near : goal.mul-requires-clause-other_near
mul-requires-clause-other_near g c = mul-requires-clause-near g c

pub mul-requires-2-clause-near : goal.mul-requires-2-clause-near
mul-requires-2-clause-near g c =
    subst (λ (x : ScaledNumber). IsNear (2 ^ 24) x.scale) (sym c.norm-three.ensures) (near_more 96 (2 ^ 24) _ (norm_near _) (omega arith))

pub mul-requires-2-clause-other_near : goal.mul-requires-2-clause-other_near
mul-requires-2-clause-other_near g c = mul-requires-2-clause-near g c

pub mul-whole-requires-clause-near : goal.mul-whole-requires-clause-near
mul-whole-requires-clause-near g c =
    subst (λ (x : ScaledNumber). IsNear (2 ^ 24) x.scale) (sym c.norm.ensures) (near_more 96 (2 ^ 24) _ (norm_near _) (omega arith))

pub mul-whole-requires-clause-other_near : goal.mul-whole-requires-clause-other_near
mul-whole-requires-clause-other_near g c =
    subst (λ (x : ScaledNumber). IsNear (2 ^ 24) x.scale) (sym c.frac.ensures) (near_more 160 (2 ^ 24) _ (frac_near _ _) (omega arith))
