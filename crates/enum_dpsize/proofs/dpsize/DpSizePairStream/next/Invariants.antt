use Rattle.std.proofs.Common.{◌≡◌}
use Rattle.enum_dpsize.specs.DpsizeLeft.{IsDpsizeState, IsOf, left_at}
use Rattle.enum_dpsize.proofs.DpsizeSteps.{rank}
use Rattle.enum_dpsize.proofs.dpsize.DpSizePairStream.next.Given as goal

abbrev pub invariant-rows : goal.invariant-rows
invariant-rows g l =
    let s = l.self-inside in
    record {
      at : IsOf s.graph s.at.set s.at;
      fits : IsDpsizeState s.graph s.parts.now s.cursor;
      left : l.fn.self ≡ left_at s.graph s.cursor;
    }

abbrev pub decreases-rows : goal.decreases-rows
decreases-rows g l = rank l.self-inside.graph l.self-inside.cursor
