use Rattle.std.proofs.Common.{◌≡◌, ◌-◌, length, drop}
use Rattle.enum_dpsize.specs.Dpsize.{pairs_with}
use Rattle.enum_dpsize.proofs.dpsize.next_in_row.Given as goal

abbrev pub invariant-row : goal.invariant-row
invariant-row l =
    pairs_with l.graph (drop l.fn.next l.ys) l.x ≡ pairs_with l.graph (drop l.next l.ys) l.x

abbrev pub decreases-row : goal.decreases-row
decreases-row l = length l.ys - l.next
