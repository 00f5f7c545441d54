-- The vectors of the list by first sides.
use Rattle.std.proofs.Common.{◌≡◌, refl, [], ◌∷◌}
use Rattle.std.specs.Prelude.{length}
use Rattle.std.specs.Int.Count.{count_trailing_zeros}
use Rattle.dpe_base.specs.Sets.{member, union, inter, minus, single, full, least}
use Rattle.join_graph.proofs.Samples.{edge, graph}
use Rattle.join_graph.specs.Graphs.{pair_of, adjacency, adjacent_to, other_end}
use Rattle.pair_stream.specs.Subsets.{subsets_after, descending}
use Rattle.pair_stream.specs.Connectivity.{adjacent_if_member, adjacent_to_members, neighbours}
use Rattle.connected_sets.specs.Lists.{extensions, grown_from, sets_with_least_below, sets_by_least}
use Rattle.enum_dpccp.specs.Dpccp.{second_sides_from, second_sides, seq_dpccp}

chain_of_three : seq_dpccp (graph 3 (edge 0 1 ∷ edge 1 2 ∷ [])) ≡ pair_of 2 4 ∷ pair_of 1 2 ∷ pair_of 1 6 ∷ pair_of 3 4 ∷ []
unfolding graph edge seq_dpccp sets_by_least sets_with_least_below second_sides second_sides_from grown_from extensions neighbours adjacent_to_members adjacent_if_member least subsets_after descending member union inter minus single full adjacency adjacent_to other_end count_trailing_zeros
chain_of_three = refl

clique_of_three : seq_dpccp (graph 3 (edge 0 1 ∷ edge 0 2 ∷ edge 1 2 ∷ [])) ≡ pair_of 2 4 ∷ pair_of 1 4 ∷ pair_of 1 2 ∷ pair_of 1 6 ∷ pair_of 3 4 ∷ pair_of 5 2 ∷ []
unfolding graph edge seq_dpccp sets_by_least sets_with_least_below second_sides second_sides_from grown_from extensions neighbours adjacent_to_members adjacent_if_member least subsets_after descending member union inter minus single full adjacency adjacent_to other_end count_trailing_zeros
clique_of_three = refl

chain_of_four : seq_dpccp (graph 4 (edge 0 1 ∷ edge 1 2 ∷ edge 2 3 ∷ [])) ≡ pair_of 4 8 ∷ pair_of 2 4 ∷ pair_of 2 12 ∷ pair_of 6 8 ∷ pair_of 1 2 ∷ pair_of 1 6 ∷ pair_of 1 14 ∷ pair_of 3 4 ∷ pair_of 3 12 ∷ pair_of 7 8 ∷ []
unfolding graph edge seq_dpccp sets_by_least sets_with_least_below second_sides second_sides_from grown_from extensions neighbours adjacent_to_members adjacent_if_member least subsets_after descending member union inter minus single full adjacency adjacent_to other_end count_trailing_zeros
chain_of_four = refl

-- the star of four with its centre numbered last
star_of_four : length (seq_dpccp (graph 4 (edge 0 3 ∷ edge 1 3 ∷ edge 2 3 ∷ []))) ≡ 12
unfolding graph edge seq_dpccp sets_by_least sets_with_least_below second_sides second_sides_from grown_from extensions neighbours adjacent_to_members adjacent_if_member least subsets_after descending member union inter minus single full adjacency adjacent_to other_end count_trailing_zeros
star_of_four = refl
