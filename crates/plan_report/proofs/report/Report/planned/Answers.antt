use Rattle.std.proofs.Common.{arith, length}
use Rattle.join_graph.specs.Graphs.{graph_of}
use Rattle.join_tree.specs.TreeOf.{tree_of}
use Rattle.join_tree.proofs.TreeLaws.{legal_leaves}
use Rattle.plan_report.proofs.Heights.{legal_height_small}
use Rattle.plan_report.proofs.Plain.{planned_plain}
use Rattle.plan_report.proofs.report.Report.planned.Goals as goal

pub write_plan-requires-clause-named : goal.write_plan-requires-clause-named
write_plan-requires-clause-named g c κs within =
    rw c.in_ok-tree.ensures.shape
    (legal_leaves g.M.CostModel.KIND (length c.args.aliases.now) (graph_of c.args.query.now) (tree_of c.args.tree.now) (omega (arith, c.requires.named)) c.requires.legal)

pub write_plan-requires-clause-fits : goal.write_plan-requires-clause-fits
write_plan-requires-clause-fits g c =
    rw c.in_ok-tree.ensures.shape
    (omega (arith, legal_height_small g.M.CostModel.KIND c.args.query.now (tree_of c.args.tree.now) c.rows_of_all-rows.ensures.valid c.requires.legal))

pub plan_value-requires-after_bounds : goal.plan_value-requires-after_bounds
plan_value-requires-after_bounds g c κs within =
    rw c.in_ok-tree.ensures.shape
    (legal_leaves g.M.CostModel.KIND (length c.args.aliases.now) (graph_of c.args.query.now) (tree_of c.args.tree.now) (omega (arith, c.requires.named)) c.requires.legal)

pub push_value-requires : goal.push_value-requires
push_value-requires g c =
    planned_plain c.in_ok-entry-in-Json.entry c.in_ok-plan-in-Json.plan _ _ _ _ _ _ _ _ c.in_ok-entry-in-Json.ensures c.in_ok-plan-in-Json.ensures
