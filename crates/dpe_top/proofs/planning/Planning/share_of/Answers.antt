use Rattle.std.proofs.Common.{arith}
use Rattle.dpe_base.specs.Sets.{full}
use Rattle.dpe_base.specs.Queries.{relations}
use Rattle.join_tree.specs.TreeOf.{tree_of}
use Rattle.dpe_top.specs.Classes.{class_of}
use Rattle.dpe_top.proofs.Plans.{plan_below}
use Rattle.dpe_top.proofs.planning.Planning.share_of.Goals as goal

pub overflow_cast-cost : goal.overflow_cast-cost
overflow_cast-cost g c =
    omega (arith, c.cost-cost.ensures, plan_below (class_of c.args.self.now.mode) g.M.CostModel.KIND c.args.query.now (full (relations c.args.query.now)) (tree_of c.in_ok-planned.planned.tree) c.n-n.ensures.valid c.in_ok-planned.ensures.plan)
