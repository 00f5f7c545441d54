use Rattle.std.proofs.Common.{◌<◌, arith}
use Rattle.dpe_base.specs.declared.TheConstants.{N_MAX}
use Rattle.enum_dpccp.proofs.SideSteps.{least_room, excluded_by}
use Rattle.enum_dpccp.proofs.sides.excluded.Goals as goal

pub overflow_add-r : goal.overflow_add-r
overflow_add-r c =
    let l : c.in-Some.r < N_MAX = least_room c.args.graph.now c.args.a c.in-Some.r c.recall.ensures c.requires c.in-Some.ensures in
    omega arith

pub full-requires : goal.full-requires
full-requires c =
    let l : c.in-Some.r < N_MAX = least_room c.args.graph.now c.args.a c.in-Some.r c.recall.ensures c.requires c.in-Some.ensures in
    omega arith

pub returns-in-Some : goal.returns-in-Some
returns-in-Some c =
    excluded_by c.args.graph.now c.args.a c.in-Some.r c.full.result c.union.result c.recall.ensures c.requires c.in-Some.ensures c.full.ensures c.union.ensures
