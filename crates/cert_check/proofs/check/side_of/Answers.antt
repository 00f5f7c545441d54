use Rattle.dpe_base.proofs.SizeLaws.{full_below}
use Rattle.std.proofs.Common.{arith}
use Rattle.dpe_base.specs.Queries.{relations}
use Rattle.cert_check.proofs.KnownSides.{not_connected}
use Rattle.cert_check.proofs.check.side_of.Goals as goal

pub returns-then-rows-eq0 : goal.returns-then-rows-eq0
returns-then-rows-eq0 c = not_connected c.args.query.now c.args.s c.rows-rows.result c.rows-rows.ensures c.if-rows-eq0.true

pub bounds-bounds-bits : goal.bounds-bounds-bits
bounds-bounds-bits c =
    omega (arith, full_below c.args.s (relations c.args.query.now) c.requires.within)
