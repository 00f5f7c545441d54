use Rattle.std.proofs.Common.{◌≡◌, ◌+◌, List, length}
use Rattle.dpe_base.specs.declared.pair.Pair.{Pair}
use Rattle.reorder_buffer.specs.Groups.{groups_below}
use Rattle.dpe_engine.specs.Running.Between.{IsAtBuffer, IsAtGroup, MayWorkGroup, IsSameBuffer}
use Rattle.dpe_engine.proofs.run.consumer.Consumer.work.Given as goal

abbrev pub invariant-sizes : goal.invariant-sizes
invariant-sizes g l = record {
  may : MayWorkGroup g.M.CostModel.KIND l.shared l.size l.consumer;
  reached : (later : List Pair) → IsAtBuffer g.M.CostModel.KIND l.shared l.fn.self later → IsAtGroup g.M.CostModel.KIND l.shared l.size l.consumer later;
  counted : l.consumer.rounds ≡ l.fn.self.rounds + length (groups_below l.size l.fn.self.full.pairs);
  same : IsSameBuffer l.fn.self l.consumer;
}
