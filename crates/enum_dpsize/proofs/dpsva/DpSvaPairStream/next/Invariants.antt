use Rattle.std.proofs.Common.{◌≡◌, ◌≤◌, ◌+◌}
use Rattle.enum_dpsize.specs.DpsizeLeft.{IsOf, left_at}
use Rattle.enum_dpsize.specs.DpsvaLeft.{IsDpsvaState, probes_at}
use Rattle.enum_dpsize.proofs.DpsizeSteps.{rank}
use Rattle.enum_dpsize.proofs.dpsva.DpSvaPairStream.next.Given as goal

abbrev pub invariant-rows : goal.invariant-rows
invariant-rows g l =
    let s = l.self-inside in
    record {
      at : IsOf s.graph s.at.set s.at;
      kept : IsDpsvaState s.graph s.parts.now s.cursor s.probes;
      left : l.fn.self.pairs ≡ left_at s.graph s.cursor;
      total : l.fn.self.total ≡ s.probes + probes_at s.graph s.cursor;
      steps : l.steps + l.fn.self.probed ≡ l.initial.steps + s.probes;
      forward : l.initial.steps ≤ l.steps;
    }

abbrev pub decreases-rows : goal.decreases-rows
decreases-rows g l = rank l.self-inside.graph l.self-inside.cursor
