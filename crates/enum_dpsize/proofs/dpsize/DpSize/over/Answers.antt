use Rattle.std.proofs.Common.{ℕ, sym, subst}
use Rattle.dpe_base.specs.Sets.{Has}
use Rattle.dpe_base.proofs.SetLaws.{empty_has}
use Rattle.pair_stream.specs.Orders.{Ordered, Complete}
use Rattle.enum_dpsize.proofs.DpsizeLaw.{dpsize_complete, dpsize_ordered}
use Rattle.enum_dpsize.proofs.dpsize.DpSize.over.Goals as goal

pub returns-clause-complete : goal.returns-clause-complete
returns-clause-complete c = subst (Complete c.args.graph.now) (sym c.first.ensures.left) (dpsize_complete c.args.graph.now c.recall.ensures)

pub returns-clause-ordered : goal.returns-clause-ordered
returns-clause-ordered c = subst Ordered (sym c.first.ensures.left) (dpsize_ordered c.args.graph.now c.recall.ensures)

pub of-requires : goal.of-requires
of-requires c = λ r h. absurd (empty_has r (subst (λ (s : ℕ). Has s r) c.empty.ensures h))
