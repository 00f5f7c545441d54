-- How many entries the stream has still to look at, and what its fields keep.
use Rattle.std.specs.Prelude.{ℕ, suc, ◌+◌, ◌-◌, ◌/◌, ◌<◌, ◌^◌, Bool, ◌==◌, nat_lt, List, length, slice_index, sum_by, if◌then◌else◌}
use Rattle.std.specs.List.{range_with_len}
use Rattle.join_graph.specs.Graphs.{JoinGraph}
use Rattle.pair_stream.specs.Parts.{part}
use Rattle.skip_vector.specs.Skips.{probes_from}
use Rattle.enum_dpsize.specs.declared.cursor.Cursor.{Cursor}
use Rattle.enum_dpsize.specs.DpsizeLeft.{IsDpsizeState}
use Rattle.enum_dpsize.specs.Dpsva.{rows_probes, sized_probes}

-- how many entries are still to be looked at from place j of row i on
unfoldable pub rows_probes_from : List ℕ → Bool → List ℕ → ℕ → ℕ → ℕ
rows_probes_from ys same xs i j =
    if nat_lt i (length xs) then probes_from ys j (slice_index xs i) + rows_probes ys same xs (suc i) else 0

-- the same from the sizes s and k, row i and place j
unfoldable pub probes_left : JoinGraph → ℕ → ℕ → ℕ → ℕ → ℕ
probes_left g s k i j =
    rows_probes_from (part g (s - k)) (k == s - k) (part g k) i j
    + (sum_by (λ k. sized_probes g k (s - k)) (range_with_len (suc k) (s / 2 - k))
    + sum_by (λ s. sum_by (λ k. sized_probes g k (s - k)) (range_with_len 1 (s / 2))) (range_with_len (suc s) (g.n - s)))

-- the same from a cursor on
abbrev pub probes_at : JoinGraph → Cursor → ℕ
probes_at g c = probes_left g c.size c.small c.row c.next

-- what every state keeps
pub record IsDpsvaState (g : JoinGraph) (parts : List (List ℕ)) (c : Cursor) (probes : ℕ) : Type 0 where
  pub state : IsDpsizeState g parts c
  pub few : probes + probes_at g c < 2 ^ 64
