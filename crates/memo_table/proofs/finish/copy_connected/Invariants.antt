use Rattle.std.proofs.Common.{◌≡◌, ℕ, length, Contains}
use Rattle.std.specs.Mem.Slots.{slots_items}
use Rattle.connected_sets.specs.Left.{sets_left, SetsFit}
use Rattle.memo_table.specs.Finishing.{AreCopiedBut}
use Rattle.memo_table.proofs.finish.copy_connected.Given as goal

-- all words are copied but those of the sets that are still to come
abbrev pub invariant-sets : goal.invariant-sets
invariant-sets l =
    record {
      size : length l.row ≡ length l.fn.row;
      fits : SetsFit l.graph l.sets;
      others : AreCopiedBut (Contains (sets_left l.graph l.sets)) (slots_items l.closed.words) l.row;
    }

abbrev pub decreases-sets : goal.decreases-sets
decreases-sets l = length (sets_left l.graph l.sets)
