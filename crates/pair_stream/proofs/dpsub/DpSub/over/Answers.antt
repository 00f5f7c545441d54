use Rattle.std.proofs.Common.{sym, subst}
use Rattle.pair_stream.specs.Orders.{Ordered, Complete}
use Rattle.pair_stream.proofs.DpsubSteps.{left_at, dpsub_laws}
use Rattle.pair_stream.proofs.dpsub.DpSub.over.Goals as goal

pub returns-clause-list : goal.returns-clause-list
returns-clause-list c = left_at c.args.graph.now c.empty.result c.empty-2.result c.empty.ensures c.empty-2.ensures

pub returns-clause-complete : goal.returns-clause-complete
returns-clause-complete c =
    subst (Complete c.args.graph.now) (sym (left_at c.args.graph.now c.empty.result c.empty-2.result c.empty.ensures c.empty-2.ensures))
    (dpsub_laws c.args.graph.now c.recall.ensures).0

pub returns-clause-ordered : goal.returns-clause-ordered
returns-clause-ordered c =
    subst Ordered (sym (left_at c.args.graph.now c.empty.result c.empty-2.result c.empty.ensures c.empty-2.ensures))
    (dpsub_laws c.args.graph.now c.recall.ensures).1
