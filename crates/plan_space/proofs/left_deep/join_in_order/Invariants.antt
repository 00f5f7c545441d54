use Rattle.plan_space.specs.LeastWords.{IsLeastOf, JoinsBelow}
use Rattle.plan_space.proofs.left_deep.join_in_order.Given as goal

abbrev pub invariant-loop-op : goal.invariant-loop-op
invariant-loop-op g l = IsLeastOf (JoinsBelow l.op g.M.CostModel.KIND l.left l.first l.l l.r l.o) l.least
