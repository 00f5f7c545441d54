use Rattle.reopt.proofs.FromScratch.{planned_best, is_planned}
use Rattle.reopt.proofs.kept.Kept.planned.Goals as goal

pub invariant_of-result : goal.invariant_of-result
invariant_of-result g c =
    let e = c.in_ok-solved.ensures in
    planned_best g.M.CostModel.KIND c.args.query _ _ c.in_ok-solved.solved c.recall.ensures c.requires.connected e.listed e.solved

pub returns : goal.returns
returns g c =
    let e = c.in_ok-solved.ensures in
    is_planned g.M.CostModel.KIND c.args.query _ _ c.in_ok-solved.solved e.listed e.solved
