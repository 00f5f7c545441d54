use Rattle.planner.proofs.BestWords.{run_words}
use Rattle.planner.proofs.job.Job.planned.Goals as goal

pub tree-requires-clause-words : goal.tree-requires-clause-words
tree-requires-clause-words g c κs within =
    run_words g.M.CostModel.KIND c.args.self.now.options.now c.args.self.now.query.now (g.P.PairStream.total c.args.stream) c.args.solved c.row.result.now
    c.requires.listing c.requires.run c.recall.ensures c.row.ensures
