-- The pairs of a graph that have a side of one relation: by ascending unions, and then by that relation, ascending.
use Rattle.std.specs.Prelude.{ℕ, Bool, ◌&&◌, ◌||◌, ◌==◌, nat_le, List, [], map, if◌then◌else◌}
use Rattle.std.specs.List.{range_with_len, filter, flat_map}
use Rattle.dpe_base.specs.declared.pair.Pair.{Pair}
use Rattle.dpe_base.specs.Sets.{member, minus, single, full, least, size}
use Rattle.join_graph.specs.Graphs.{JoinGraph, pair_of}
use Rattle.pair_stream.specs.Connectivity.{is_connected}

-- r is in s, and the rest of s is connected. Either relation of a set of two gives the same pair: the lesser counts.
unfoldable pub can_be_taken : JoinGraph → ℕ → ℕ → Bool
can_be_taken g s r = (member s r == 1) && ((r == least s || nat_le 3 (size s)) && is_connected g (minus s (single r)))

-- the pair of r and the rest of s, the side with the least relation of s first
unfoldable pub taken_from : ℕ → ℕ → Pair
taken_from s r = if r == least s then pair_of (single r) (minus s (single r)) else pair_of (minus s (single r)) (single r)

-- the pairs with the union s
unfoldable pub zig_zag_splits : JoinGraph → ℕ → List Pair
zig_zag_splits g s = if is_connected g s then map (taken_from s) (filter (can_be_taken g s) (range_with_len 0 g.n)) else []

unfoldable pub seq_zig_zag : JoinGraph → List Pair
seq_zig_zag g = flat_map (zig_zag_splits g) (range_with_len 1 (full g.n))
