use Rattle.planner.proofs.Listings.{few_zig_zag, left_plans}
use Rattle.planner.proofs.job.Job.left_deep.Goals as goal

pub count_pairs-pairs-requires-after_bounds : goal.count_pairs-pairs-requires-after_bounds
count_pairs-pairs-requires-after_bounds g c κs =
    few_zig_zag c.args.self.now.query.now c.args.graph.now c.over-stream.result c.recall.ensures c.requires.graph c.over-stream.ensures.complete

pub returns : goal.returns
returns g c =
    left_plans g.M.CostModel.KIND c.args.self.now.options.now c.args.self.now.query.now c.args.graph.now c.over-stream.result
    c.count_pairs-pairs.result c.in_ok-tree.tree c.requires.class c.requires.options.buffer.0 c.requires.graph
    c.over-stream.ensures.list c.over-stream.ensures.complete c.count_pairs-pairs.ensures c.in_ok-tree.ensures
