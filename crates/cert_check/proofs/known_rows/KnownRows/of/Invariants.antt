use Rattle.std.proofs.Common.{◌≡◌, ℕ, ◌<◌, length, slice_index}
use Rattle.cert_check.specs.Steps.{IsKnownRows}
use Rattle.cert_check.proofs.known_rows.KnownRows.of.Given as goal

abbrev pub invariant-loop-s : goal.invariant-loop-s
invariant-loop-s l =
    (length l.table ≡ length l.initial.table) × ((s : ℕ) → s < l.s → IsKnownRows l.query s (slice_index l.table s))
