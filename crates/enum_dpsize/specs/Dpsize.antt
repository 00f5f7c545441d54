-- The pairs by the sizes of their unions, then by the sizes of their smaller sides.
use Rattle.std.specs.Prelude.{ℕ, ◌+◌, ◌-◌, ◌/◌, Bool, ◌&&◌, ◌==◌, nat_lt, not, List, [], ◌∷◌, ◌++◌, map, if◌then◌else◌}
use Rattle.std.specs.List.{range_with_len, filter, flat_map}
use Rattle.dpe_base.specs.declared.pair.Pair.{Pair}
use Rattle.join_graph.specs.Graphs.{JoinGraph, pair_of}
use Rattle.pair_stream.specs.Parts.{part}
use Rattle.pair_stream.specs.Connectivity.{adjacent_to_members}
use Rattle.dpe_base.specs.Sets.{meets, least}

-- x and y are disjoint, and a predicate joins them
unfoldable pub is_joinable : JoinGraph → ℕ → ℕ → Bool
is_joinable g x y = not (meets x y) && meets (adjacent_to_members g x g.n) y

-- the pair of two sets that are disjoint, the one with the least relation first
unfoldable pub pair_by_least : ℕ → ℕ → Pair
pair_by_least x y = if nat_lt (least x) (least y) then pair_of x y else pair_of y x

-- the pairs of x with each of the sets that can be joined to it
unfoldable pub pairs_with : JoinGraph → List ℕ → ℕ → List Pair
pairs_with g ys x = map (pair_by_least x) (filter (is_joinable g x) ys)

-- each set with those after it
abbrev pub pairs_after : JoinGraph → List ℕ → List Pair
pairs_after g [] = []
pairs_after g (x ∷ xs) = pairs_with g xs x ++ pairs_after g xs

-- the pairs of the first sets xs with the second sets ys, or with the later ones of the same list
abbrev pub row_pairs : JoinGraph → List ℕ → Bool → List ℕ → List Pair
row_pairs g ys same xs = if same then pairs_after g xs else flat_map (pairs_with g ys) xs

-- the pairs of a side of k relations and one of l
unfoldable pub pairs_sized : JoinGraph → ℕ → ℕ → List Pair
pairs_sized g k l = row_pairs g (part g l) (k == l) (part g k)

unfoldable pub seq_dpsize : JoinGraph → List Pair
seq_dpsize g = flat_map (λ s. flat_map (λ k. pairs_sized g k (s - k)) (range_with_len 1 (s / 2))) (range_with_len 2 (g.n - 1))

-- where a row begins: at the place after its own set, or at the first
abbrev pub start_at : Bool → ℕ → ℕ
start_at same i = if same then i + 1 else 0
