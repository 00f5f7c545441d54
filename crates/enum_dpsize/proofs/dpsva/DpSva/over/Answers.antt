use Rattle.std.proofs.Common.{ℕ, sym, subst, arith}
use Rattle.dpe_base.specs.Sets.{Has}
use Rattle.dpe_base.proofs.SetLaws.{empty_has}
use Rattle.pair_stream.specs.Orders.{Ordered, Complete}
use Rattle.enum_dpsize.proofs.DpsizeLaw.{dpsize_complete, dpsize_ordered}
use Rattle.enum_dpsize.proofs.Neighbourhoods.{its_own}
use Rattle.enum_dpsize.proofs.ProbeSteps.{probes_bound}
use Rattle.enum_dpsize.proofs.dpsva.DpSva.over.Goals as goal

pub returns-clause-complete : goal.returns-clause-complete
returns-clause-complete c = subst (Complete c.args.graph.now) (sym c.first.ensures.left) (dpsize_complete c.args.graph.now c.recall.ensures)

pub returns-clause-ordered : goal.returns-clause-ordered
returns-clause-ordered c = subst Ordered (sym c.first.ensures.left) (dpsize_ordered c.args.graph.now c.recall.ensures)

pub invariant_of-result : goal.invariant_of-result
invariant_of-result c = (
  record {
    state = record { cursor = c.first.ensures.fits; made = c.requires };
    few = omega (arith, c.first.ensures.probes, probes_bound c.args.graph.now c.recall.ensures);
  },
  its_own c.args.graph.now _ c.of.result c.of.ensures,
)

pub of-requires : goal.of-requires
of-requires c = λ r h. absurd (empty_has r (subst (λ (s : ℕ). Has s r) c.empty.ensures h))
