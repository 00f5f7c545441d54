use Rattle.std.proofs.Common.{arith}
use Rattle.enum_dpsize.proofs.PartLists.{parts_length}
use Rattle.enum_dpsize.proofs.tests.connected_sets.Goals as goal

pub part-requires : goal.part-requires
part-requires c =
    (omega arith, omega (arith, parts_length c.args.graph.now c.in_ok-parts.parts c.in_ok-parts.ensures.value, c.n-k-end.ensures.value))
