-- How many entries the scans by skip vectors look at, and the stream that counts them.
use Rattle.std.specs.Prelude.{◌≡◌, ℕ, ◌-◌, ◌/◌, Bool, true, ◌&&◌, ◌==◌, List, [], length, slice_index, sum_by}
use Rattle.std.specs.List.{range_with_len}
use Rattle.std.proofs.lemmas.Bool.{and_parts, eqb-true}
use Rattle.dpe_base.specs.declared.pair.Pair.{Pair}
use Rattle.join_graph.specs.Graphs.{JoinGraph, IsGraph}
use Rattle.pair_stream.specs.Parts.{part, parts_of}
use Rattle.pair_stream.specs.Streams.{is_over, over_is_empty}
use Rattle.skip_vector.specs.Skips.{probes_from}
use Rattle.enum_dpsize.specs.Dpsize.{start_at}

-- the parts are those of some graph
abbrev pub AreParts : List (List ℕ) → Type 0
AreParts parts = (g : JoinGraph) × IsGraph g × (parts ≡ parts_of g)

-- how many entries the scans for the set at place i look at: they go over all of ys, or, where both lists are one,
-- over the entries after the set
unfoldable pub row_probes : List ℕ → Bool → List ℕ → ℕ → ℕ
row_probes ys same xs i = probes_from ys (start_at same i) (slice_index xs i)

-- the same for the sets from place i on
unfoldable pub rows_probes : List ℕ → Bool → List ℕ → ℕ → ℕ
rows_probes ys same xs i = sum_by (row_probes ys same xs) (range_with_len i (length xs - i))

-- the same for all first sides of k relations and second sides of l
unfoldable pub sized_probes : JoinGraph → ℕ → ℕ → ℕ
sized_probes g k l = rows_probes (part g l) (k == l) (part g k) 0

-- the same for all sizes
unfoldable pub dpsva_probes : JoinGraph → ℕ
dpsva_probes g =
    sum_by (λ s. sum_by (λ k. sized_probes g k (s - k)) (range_with_len 1 (s / 2))) (range_with_len 2 (g.n - 1))

-- the pairs that are left, the probes so far, and those of the whole stream
pub record CountedStream : Type 0 where
  pub pairs : List Pair
  pub probed : ℕ
  pub total : ℕ

abbrev pub has_ended : CountedStream → Bool
has_ended s = is_over s.pairs && s.probed == s.total

pub ended_stream : (s : CountedStream) → has_ended s ≡ true → (s.pairs ≡ []) × (s.probed ≡ s.total)
ended_stream s t =
    let both = and_parts (is_over s.pairs) (s.probed == s.total) t in
    (over_is_empty s.pairs both.0, eqb-true s.probed s.total both.1)
