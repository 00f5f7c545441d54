use Rattle.std.proofs.Common.{◌≡◌, ◌-◌}
use Rattle.dpe_base.specs.Sets.{Within}
use Rattle.connected_sets.specs.Growth.{calls_after}
use Rattle.connected_sets.proofs.growth.next_child.Given as goal

abbrev pub invariant-scan : goal.invariant-scan
invariant-scan l =
    record {
      part : Within l.last l.call.neighbours;
      left : calls_after l.graph l.call l.call.last ≡ calls_after l.graph l.call l.last;
    }

abbrev pub decreases-scan : goal.decreases-scan
decreases-scan l = l.call.neighbours - l.last
