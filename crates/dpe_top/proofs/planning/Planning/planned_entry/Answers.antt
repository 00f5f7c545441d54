use Rattle.std.proofs.Common.{ℕ, ◌∙◌, ◌++◌, ap, subst, sym}
use Rattle.dpe_base.specs.Queries.{JoinQuery, IsQuery, relations}
use Rattle.dpe_base.specs.Sets.{full}
use Rattle.join_tree.specs.Trees.{Plan}
use Rattle.join_tree.specs.TreeOf.{tree_of}
use Rattle.plan_report.specs.Texts.{planned_text}
use Rattle.dpe_top.proofs.Replanning.{below_now, entry_now}
use Rattle.dpe_top.proofs.planning.Planning.planned_entry.Goals as goal

pub planned-requires-clause-word : goal.planned-requires-clause-word
planned-requires-clause-word g c κs within =
    below_now g.M.CostModel.KIND c.args.followed.now.kept.query c.query-query.result.now (tree_of c.in_ok-tree.tree) c.query-query.ensures.value c.recall.ensures c.in_ok-tree.ensures

pub returns : goal.returns
returns g c =
    entry_now c.args.self.now c.args.subject.now.name.now c.args.subject.now.aliases.now g.M.CostModel.KIND c.args.followed.now.kept.query c.query-query.result.now (tree_of c.in_ok-tree.tree) c.args.followed.now.pairs
    c.query-query.ensures.value c.requires.model c.in_ok-tree.ensures c.requires.pairs c.new-report.result c.planned.new.self c.text.result.items
    c.new-report.ensures.format c.new-report.ensures.text c.in_ok-planned.ensures.ok c.text.ensures
