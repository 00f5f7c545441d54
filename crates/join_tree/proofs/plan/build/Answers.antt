use Rattle.std.proofs.Common.{arith, subst}
use Rattle.dpe_base.specs.Queries.{relations}
use Rattle.dpe_base.proofs.SizeLaws.{full_below}
use Rattle.join_tree.specs.Trees.{Plan}
use Rattle.join_tree.proofs.Roots.{plan_of_words, plan_named}
use Rattle.join_tree.proofs.plan.build.Goals as goal

pub tree_of_words-requires-clause-known : goal.tree_of_words-requires-clause-known
tree_of_words-requires-clause-known g c =
    omega (arith, full_below c.args.s (relations c.args.query.now) c.requires.connected.within, c.requires.sized)

pub tree_of_words-requires-clause-some : goal.tree_of_words-requires-clause-some
tree_of_words-requires-clause-some g c =
    let plan = plan_of_words g.M.CostModel.KIND c.args.query.now c.args.words.now c.args.s c.recall.ensures c.requires.best c.requires.connected in
    (plan.0, plan_named g.M.CostModel.KIND c.args.query.now c.args.words.now c.args.s plan.0 c.recall.ensures c.requires.best plan.1)

pub returns : goal.returns
returns g c =
    let plan = plan_of_words g.M.CostModel.KIND c.args.query.now c.args.words.now c.args.s c.recall.ensures c.requires.best c.requires.connected in
    subst (Plan g.M.CostModel.KIND c.args.query.now c.args.s)
    (c.in_ok-tree.ensures plan.0 (plan_named g.M.CostModel.KIND c.args.query.now c.args.words.now c.args.s plan.0 c.recall.ensures c.requires.best plan.1))
    plan.1
