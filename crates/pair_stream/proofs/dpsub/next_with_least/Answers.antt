use Rattle.std.proofs.Common.{◌<◌, arith}
use Rattle.dpe_base.specs.declared.TheConstants.{N_MAX}
use Rattle.pair_stream.proofs.DpsubSteps.{some_after, least_has_room, next_by_code}
use Rattle.pair_stream.proofs.dpsub.next_with_least.Goals as goal

pub returns-in_err-least-clause-none : goal.returns-in_err-least-clause-none
returns-in_err-least-clause-none c = absurd (some_after c.args.first c.args.set c.in_ok-next.next c.in_ok-next.ensures.next c.in_err-least.ensures)

pub single-requires : goal.single-requires
single-requires c =
    let room : c.in_ok-least.least < N_MAX = least_has_room c.args.set c.in_ok-least.least c.requires.known c.in_ok-least.ensures in
    omega arith

pub returns-clause-some : goal.returns-clause-some
returns-clause-some c =
    next_by_code c.args.first c.args.set c.in_ok-next.next c.in_ok-least.least c.single.result c.union.result c.requires.known c.in_ok-next.ensures.next c.in_ok-least.ensures c.single.ensures c.union.ensures
