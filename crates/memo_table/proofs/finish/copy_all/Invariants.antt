use Rattle.std.proofs.Common.{◌≡◌, ℕ, ◌<◌, length}
use Rattle.std.specs.Mem.Slots.{slots_items}
use Rattle.memo_table.proofs.Copying.{IsCopied}
use Rattle.memo_table.proofs.finish.copy_all.Given as goal

-- the words up to this place are copied
abbrev pub invariant-words : goal.invariant-words
invariant-words l =
    record {
      size : length l.row ≡ length l.fn.row;
      each : (s : ℕ) → s < l.k → IsCopied (slots_items l.closed.words) l.row s;
    }
