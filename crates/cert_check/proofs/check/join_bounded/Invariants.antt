use Rattle.std.proofs.Common.{ℕ, ◌+◌, ◌<◌, ◌≤◌}
use Rattle.cost_model.specs.Costs.{join_cost}
use Rattle.cert_check.proofs.check.join_bounded.Given as goal

abbrev pub invariant-loop-op : goal.invariant-loop-op
invariant-loop-op g l =
    (op : ℕ) → op < l.op → l.whole.bound ≤ l.left.bound + l.right.bound + join_cost g.M.CostModel.KIND op l.left.rows l.right.rows l.whole.rows
