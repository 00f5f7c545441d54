use Rattle.std.proofs.Common.{◌≡◌, ◌≤◌, length, ◌+◌}
use Rattle.connected_sets.specs.Lists.{sets_by_least}
use Rattle.connected_sets.specs.Left.{sets_left, SetsFit}
use Rattle.connected_sets.proofs.sets.count_up_to.Given as goal

abbrev pub invariant-sets : goal.invariant-sets
invariant-sets l =
    record {
      fits : SetsFit l.graph l.sets;
      some : l.count ≤ l.limit;
      whole : l.count + length (sets_left l.graph l.sets) ≡ length (sets_by_least l.graph);
    }

abbrev pub decreases-sets : goal.decreases-sets
decreases-sets l = length (sets_left l.graph l.sets)
