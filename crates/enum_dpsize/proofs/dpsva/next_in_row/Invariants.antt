use Rattle.std.proofs.Common.{◌≡◌, ◌≤◌, ◌+◌, ◌-◌, length, drop}
use Rattle.skip_vector.specs.Skips.{probes_from}
use Rattle.enum_dpsize.specs.Dpsize.{pairs_with}
use Rattle.enum_dpsize.proofs.dpsva.next_in_row.Given as goal

abbrev pub invariant-row : goal.invariant-row
invariant-row g l =
    record {
      pairs : pairs_with l.graph (drop l.fn.next l.ys) l.x ≡ pairs_with l.graph (drop l.next l.ys) l.x;
      probes : l.probes + probes_from l.ys l.next l.x ≡ l.fn.probes + probes_from l.ys l.fn.next l.x;
      steps : l.steps + l.fn.probes ≡ l.initial.steps + l.probes;
      forward : l.initial.steps ≤ l.steps;
    }

abbrev pub decreases-row : goal.decreases-row
decreases-row g l = length l.ys - l.next
