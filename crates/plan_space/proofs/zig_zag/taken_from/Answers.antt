use Rattle.std.proofs.lemmas.Bool.{iff_false}
use Rattle.plan_space.proofs.ZigZagSteps.{first_taken, second_taken}
use Rattle.plan_space.proofs.zig_zag.taken_from.Goals as goal

pub returns-then-is_least : goal.returns-then-is_least
returns-then-is_least c = first_taken c.args.set c.args.r c.single-one.result c.minus-rest.result c.single-one.ensures c.minus-rest.ensures (c.is_least.ensures.0 c.if-is_least.true)

pub returns-else-is_least : goal.returns-else-is_least
returns-else-is_least c = second_taken c.args.set c.args.r c.single-one.result c.minus-rest.result c.single-one.ensures c.minus-rest.ensures (iff_false c.is_least.ensures c.if-is_least.false)
