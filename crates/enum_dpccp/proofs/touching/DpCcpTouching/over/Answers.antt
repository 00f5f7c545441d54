use Rattle.enum_dpccp.proofs.TouchingSteps.{touching_started}
use Rattle.enum_dpccp.proofs.touching.DpCcpTouching.over.Goals as goal

pub returns-clause-list : goal.returns-clause-list
returns-clause-list c = touching_started c.args.graph.now c.args.r c.over.result c.empty.result c.none.result c.over.ensures.left c.none.ensures.left
