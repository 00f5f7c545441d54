-- The list of DPccp: the connected sets, and for each the connected sets beside it.
use Rattle.std.specs.Prelude.{ℕ, suc, ◌==◌, List, map}
use Rattle.std.specs.List.{filter, flat_map}
use Rattle.dpe_base.specs.declared.pair.Pair.{Pair}
use Rattle.dpe_base.specs.Sets.{member, union, inter, full, least}
use Rattle.join_graph.specs.Graphs.{JoinGraph, pair_of}
use Rattle.pair_stream.specs.Subsets.{descending}
use Rattle.connected_sets.specs.Lists.{neighbours_outside, grown_from, sets_by_least}

-- EnumerateCsg: every connected set
abbrev pub first_sides : JoinGraph → List ℕ
first_sides g = sets_by_least g

-- what no second side of a has: the relations up to the least of a, and a
abbrev pub excluded : ℕ → ℕ
excluded a = union (full (suc (least a))) a

-- the relations with which second sides of a start
abbrev pub starts : JoinGraph → ℕ → ℕ
starts g a = neighbours_outside g a (excluded a)

-- the second sides with these starts, where x is excluded. One that starts with i has no smaller start.
unfoldable pub second_sides_from : JoinGraph → ℕ → ℕ → List ℕ
second_sides_from g x from =
    flat_map (λ i. grown_from g (union x (inter from (full (suc i)))) i)
    (filter (λ i. member from i == 1) (descending g.n))

-- EnumerateCmp: the second sides of a
unfoldable pub second_sides : JoinGraph → ℕ → List ℕ
second_sides g a = second_sides_from g (excluded a) (starts g a)

unfoldable pub seq_dpccp : JoinGraph → List Pair
seq_dpccp g = flat_map (λ a. map (pair_of a) (second_sides g a)) (first_sides g)
