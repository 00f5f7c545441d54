use Rattle.std.proofs.Common.{◌<◌, arith}
use Rattle.dpe_base.specs.declared.TheConstants.{N_MAX}
use Rattle.connected_sets.specs.Growth.{growth_left}
use Rattle.connected_sets.proofs.SetSteps.{start_known, start_some}
use Rattle.enum_dpccp.proofs.SideSteps.{second_end, second_next, start_excluded, greatest_room, rest_known}
use Rattle.enum_dpccp.proofs.sides.SecondSides.next_start.Goals as goal

pub returns-in_default-clause-set : goal.returns-in_default-clause-set
returns-in_default-clause-set c = (
  second_end c.args.graph.now (growth_left c.args.graph.now c.args.self.now.growth) c.args.self.now.excluded c.args.self.now.starts c.requires.spent c.in_default.ensures,
  second_end c.args.graph.now (growth_left c.args.graph.now c.args.self.now.growth) c.args.self.now.excluded c.args.self.now.starts c.requires.spent c.in_default.ensures,
)

pub single-start-requires : goal.single-start-requires
single-start-requires c =
    let room : c.in-Some.i < N_MAX = (greatest_room c.args.graph.now c.args.self.now.starts c.in-Some.i c.recall.ensures c.requires.fits.starts c.in-Some.ensures).1 in
    omega arith

pub begin-requires-clause-known : goal.begin-requires-clause-known
begin-requires-clause-known c =
    start_known c.args.graph.now c.in-Some.i c.single-start.result c.single-start.ensures
    (greatest_room c.args.graph.now c.args.self.now.starts c.in-Some.i c.recall.ensures c.requires.fits.starts c.in-Some.ensures).0

pub begin-requires-clause-some : goal.begin-requires-clause-some
begin-requires-clause-some c = start_some c.in-Some.i c.single-start.result c.single-start.ensures

pub begin-requires-clause-excluded : goal.begin-requires-clause-excluded
begin-requires-clause-excluded c =
    start_excluded c.args.self.now.excluded c.args.self.now.starts c.in-Some.i c.single-start.result c.union-excluded.result c.in-Some.ensures c.single-start.ensures c.union-excluded.ensures

pub returns-clause-set : goal.returns-clause-set
returns-clause-set c =
    second_next c.args.graph.now (growth_left c.args.graph.now c.args.self.now.growth) (growth_left c.args.graph.now c.begin.new.self) c.args.self.now.excluded c.args.self.now.starts c.in-Some.i c.single-start.result c.union-excluded.result c.minus-self.result
    c.requires.spent c.requires.fits.starts c.in-Some.ensures c.single-start.ensures c.union-excluded.ensures c.minus-self.ensures c.begin.ensures.left

pub returns-clause-fits : goal.returns-clause-fits
returns-clause-fits c =
    record {
      growth = c.begin.ensures.fits;
      starts = rest_known c.args.graph.now c.args.self.now.starts c.single-start.result c.minus-self.result c.requires.fits.starts c.minus-self.ensures;
    }
