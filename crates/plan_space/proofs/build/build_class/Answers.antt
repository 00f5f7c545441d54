use Rattle.std.proofs.Common.{arith, subst}
use Rattle.dpe_base.specs.Queries.{relations}
use Rattle.dpe_base.proofs.SizeLaws.{full_below}
use Rattle.plan_space.specs.Classes.{PlanIn}
use Rattle.plan_space.proofs.ClassPlans.{plan_exists, plan_named}
use Rattle.plan_space.proofs.build.build_class.Goals as goal

pub tree_of_words-requires-clause-known : goal.tree_of_words-requires-clause-known
tree_of_words-requires-clause-known g c =
    omega (arith, full_below c.args.s (relations c.args.query.now) c.requires.connected.within, c.requires.sized)

pub tree_of_words-requires-clause-some : goal.tree_of_words-requires-clause-some
tree_of_words-requires-clause-some g c =
    let plan = plan_exists c.args.class g.M.CostModel.KIND c.args.query.now c.recall.ensures c.args.s c.requires.connected in
    (plan.0, plan_named c.args.class g.M.CostModel.KIND c.args.query.now c.args.words.now c.args.s plan.0 c.recall.ensures c.requires.least plan.1)

pub returns : goal.returns
returns g c =
    let plan = plan_exists c.args.class g.M.CostModel.KIND c.args.query.now c.recall.ensures c.args.s c.requires.connected in
    subst (PlanIn c.args.class g.M.CostModel.KIND c.args.query.now c.args.s)
    (c.in_ok-tree.ensures plan.0 (plan_named c.args.class g.M.CostModel.KIND c.args.query.now c.args.words.now c.args.s plan.0 c.recall.ensures c.requires.least plan.1))
    plan.1
