use Rattle.std.proofs.Common.{arith}
use Rattle.dpe_base.proofs.SetLaws.{single_within, full_has}
use Rattle.dpe_base.proofs.SizeLaws.{full_below}
use Rattle.dpe_base.specs.Sets.{single, full}
use Rattle.cert_check.proofs.check.relations_free.Goals as goal

pub bounds-bounds-bits : goal.bounds-bounds-bits
bounds-bounds-bits c =
    omega (arith, full_below (single c.loop-r.r) c.args.n (single_within (full c.args.n) c.loop-r.r (full_has c.args.n c.loop-r.r (omega arith))))
