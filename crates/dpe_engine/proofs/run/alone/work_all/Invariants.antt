use Rattle.std.proofs.Common.{◌≡◌, ◌+◌, length}
use Rattle.dpe_engine.specs.Running.{to_come, IsRunning, HasSameTotals}
use Rattle.dpe_engine.proofs.run.alone.work_all.Given as goal

abbrev pub invariant-buffers : goal.invariant-buffers
invariant-buffers g l = record {
  running : IsRunning g.M.CostModel.KIND g.P.PairStream.left g.P.PairStream.ended l.shared l.producer l.consumer;
  total : g.P.PairStream.total l.producer.stream ≡ g.P.PairStream.total l.fn.producer.stream;
  totals : HasSameTotals l.fn.consumer (to_come g.P.PairStream.left l.fn.producer l.fn.consumer) l.consumer (to_come g.P.PairStream.left l.producer l.consumer);
}

abbrev pub decreases-buffers : goal.decreases-buffers
decreases-buffers g l = length l.consumer.full.pairs + length (g.P.PairStream.left l.producer.stream)
