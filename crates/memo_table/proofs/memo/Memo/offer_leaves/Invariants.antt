use Rattle.memo_table.specs.Making.{IsOpen}
use Rattle.memo_table.proofs.memo.Memo.offer_leaves.Given as goal

abbrev pub invariant-loop-r : goal.invariant-loop-r
invariant-loop-r g l = IsOpen l.self l.fn.seat l.seat l.r
