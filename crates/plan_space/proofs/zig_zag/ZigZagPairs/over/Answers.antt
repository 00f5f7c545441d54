use Rattle.std.proofs.Common.{sym, subst}
use Rattle.pair_stream.specs.Orders.{Ordered}
use Rattle.plan_space.specs.Thin.{IsThinList}
use Rattle.plan_space.proofs.ZigZagSteps.{left_start, zig_zag_laws}
use Rattle.plan_space.proofs.zig_zag.ZigZagPairs.over.Goals as goal

pub returns-clause-list : goal.returns-clause-list
returns-clause-list c = left_start c.args.graph.now c.empty.result c.n.result c.empty.ensures c.n.ensures.value

pub returns-clause-complete : goal.returns-clause-complete
returns-clause-complete c =
    subst (IsThinList c.args.graph.now 1) (sym (left_start c.args.graph.now c.empty.result c.n.result c.empty.ensures c.n.ensures.value))
    (zig_zag_laws c.args.graph.now c.recall.ensures).0

pub returns-clause-ordered : goal.returns-clause-ordered
returns-clause-ordered c =
    subst Ordered (sym (left_start c.args.graph.now c.empty.result c.n.result c.empty.ensures c.n.ensures.value))
    (zig_zag_laws c.args.graph.now c.recall.ensures).1
