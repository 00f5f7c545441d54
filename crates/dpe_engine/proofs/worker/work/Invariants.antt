use Rattle.std.proofs.Common.{◌≡◌, ◌+◌, cond, [], length, drop}
use Rattle.dpe_engine.proofs.Bursts.{IsWorking}
use Rattle.dpe_engine.proofs.worker.work.Given as goal

abbrev pub invariant-bursts : goal.invariant-bursts
invariant-bursts g l = IsWorking g.M.CostModel.KIND l.base l.pairs l.fn.seat l.seat [] l.over

abbrev pub decreases-bursts : goal.decreases-bursts
decreases-bursts g l = l.seat.view.allowance

abbrev pub invariant-draws : goal.invariant-draws
invariant-draws g l = record {
  working : IsWorking g.M.CostModel.KIND l.base l.pairs l.fn.seat l.seat l.places.items l.over;
  spent : l.seat.view.allowance + length l.places.items + cond l.over 1 0 ≡ l.initial.seat.view.allowance;
}

abbrev pub decreases-draws : goal.decreases-draws
decreases-draws g l = l.seat.view.allowance

abbrev pub invariant-works : goal.invariant-works
invariant-works g l = record {
  working : IsWorking g.M.CostModel.KIND l.base l.pairs l.fn.seat l.seat (drop l.i l.places.items) l.over;
  same : l.seat.view.allowance ≡ l.initial.seat.view.allowance;
}
