-- The pairs by ascending unions, then by ascending first sides.
use Rattle.std.specs.Prelude.{ℕ, Bool, ◌&&◌, ◌==◌, List, [], map, if◌then◌else◌}
use Rattle.std.specs.List.{range_with_len, filter, flat_map}
use Rattle.dpe_base.specs.declared.pair.Pair.{Pair}
use Rattle.dpe_base.specs.Sets.{member, minus, full, least}
use Rattle.join_graph.specs.Graphs.{JoinGraph, pair_of}
use Rattle.pair_stream.specs.Subsets.{subsets_after}
use Rattle.pair_stream.specs.Connectivity.{is_connected}

-- a and the rest of s are a pair of connected sets, a with the least relation of s
unfoldable pub is_split : JoinGraph → ℕ → ℕ → Bool
is_split g s a = (member a (least s) == 1) && (is_connected g a && is_connected g (minus s a))

-- the pairs with the union s
unfoldable pub splits_of : JoinGraph → ℕ → List Pair
splits_of g s = if is_connected g s then map (λ a. pair_of a (minus s a)) (filter (is_split g s) (subsets_after 0 s)) else []

unfoldable pub seq_dpsub : JoinGraph → List Pair
seq_dpsub g = flat_map (splits_of g) (range_with_len 1 (full g.n))
