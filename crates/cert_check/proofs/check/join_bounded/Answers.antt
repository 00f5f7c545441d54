use Rattle.std.proofs.Common.{◌<◌, ◌^◌, arith}
use Rattle.cost_model.specs.Costs.{join_cost}
use Rattle.cost_model.proofs.LawProofs.{costs_are_bounded}
use Rattle.cert_check.proofs.check.join_bounded.Goals as goal

pub overflow_add-sides-in-loop-op : goal.overflow_add-sides-in-loop-op
overflow_add-sides-in-loop-op g c =
    let small : join_cost g.M.CostModel.KIND c.loop-op.op c.args.left.rows c.args.right.rows c.args.whole.rows < 2 ^ 90 =
    (costs_are_bounded g.M.CostModel.KIND c.loop-op.op c.args.left.rows c.args.right.rows c.args.whole.rows c.requires.left.1 c.requires.right.1 c.requires.whole.1).0 in
    omega (arith, c.cost-join.ensures, small)
