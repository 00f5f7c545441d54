use Rattle.std.proofs.lemmas.Bool.{iff_false, leb-true, le-leb}
use Rattle.plan_space.proofs.ZigZagSteps.{by_size}
use Rattle.plan_space.proofs.zig_zag.counts.Goals as goal

pub returns : goal.returns
returns c =
    by_size c.args.set c.args.r c.len.result _ c.len.ensures (iff_false c.is_least.ensures c.if-is_least.false) (leb-true 3 c.len.result, le-leb 3 c.len.result)
