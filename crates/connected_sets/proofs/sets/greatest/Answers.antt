use Rattle.std.proofs.Common.{◌-◌, ◌∙◌, ℕ, arith, sym, subst}
use Rattle.std.specs.Int.Count.{count_leading_zeros}
use Rattle.connected_sets.specs.Greatest.{IsGreatest}
use Rattle.connected_sets.proofs.TopDigit.{greatest_by_zeros}
use Rattle.connected_sets.proofs.sets.greatest.Goals as goal

pub returns-else-bits-eq0 : goal.returns-else-bits-eq0
returns-else-bits-eq0 c =
    subst (λ (s : ℕ). IsGreatest s (31 - count_leading_zeros 32 c.bits-else-bits-eq0.result)) c.bits-else-bits-eq0.ensures
    (greatest_by_zeros c.bits-else-bits-eq0.result (omega arith) (λ e. c.if-bits-eq0.false (c.bits.ensures ∙ sym c.bits-else-bits-eq0.ensures ∙ e)))
