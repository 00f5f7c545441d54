use Rattle.std.proofs.Common.{ℕ}
use Rattle.dpe_base.specs.Sets.{Has, Within}
use Rattle.plan_space.specs.LeastWords.{IsLeastOf, EndsWith}
use Rattle.plan_space.proofs.left_deep.with_any_last.Given as goal

abbrev pub invariant-rest : goal.invariant-rest
invariant-rest g l = record {
  within : Within l.rest l.s;
  least : IsLeastOf (λ v. (r : ℕ) × (Has l.rest r → ⊥) × Has l.s r × EndsWith g.M.CostModel.KIND l.graph l.cards.rows l.words l.s r v) l.least;
}

abbrev pub decreases-rest : goal.decreases-rest
decreases-rest g l = l.rest
