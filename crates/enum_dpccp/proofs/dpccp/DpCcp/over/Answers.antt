use Rattle.std.proofs.Common.{sym, subst}
use Rattle.pair_stream.specs.Orders.{Ordered, Complete}
use Rattle.enum_dpccp.proofs.DpccpLaw.{dpccp_complete, dpccp_ordered}
use Rattle.enum_dpccp.proofs.DpccpSteps.{started}
use Rattle.enum_dpccp.proofs.dpccp.DpCcp.over.Goals as goal

pub returns-clause-list : goal.returns-clause-list
returns-clause-list c = started c.args.graph.now c.over.result c.empty.result c.none.result c.over.ensures.left c.none.ensures.left

pub returns-clause-complete : goal.returns-clause-complete
returns-clause-complete c =
    subst (Complete c.args.graph.now) (sym (started c.args.graph.now c.over.result c.empty.result c.none.result c.over.ensures.left c.none.ensures.left))
    (dpccp_complete c.args.graph.now c.recall.ensures)

pub returns-clause-ordered : goal.returns-clause-ordered
returns-clause-ordered c =
    subst Ordered (sym (started c.args.graph.now c.over.result c.empty.result c.none.result c.over.ensures.left c.none.ensures.left))
    (dpccp_ordered c.args.graph.now c.recall.ensures)
