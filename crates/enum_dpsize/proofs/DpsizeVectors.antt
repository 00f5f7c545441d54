-- The vector of the list by sizes.
use Rattle.std.proofs.Common.{◌≡◌, refl, [], ◌∷◌}
use Rattle.std.specs.Int.Count.{count_trailing_zeros}
use Rattle.std.specs.Int.RustNames.{count_ones}
use Rattle.dpe_base.specs.Sets.{member, union, inter, minus, single, full, size, alone, members_below, least}
use Rattle.join_graph.proofs.Samples.{edge, graph}
use Rattle.join_graph.specs.Graphs.{pair_of, adjacency, adjacent_to, other_end}
use Rattle.pair_stream.specs.Connectivity.{adjacent_if_member, adjacent_to_members, is_connected}
use Rattle.pair_stream.specs.Subsets.{subsets_after}
use Rattle.pair_stream.specs.Parts.{part, connected_sets, connected_of_size}
use Rattle.enum_dpsize.specs.Dpsize.{is_joinable, pair_by_least, pairs_with, pairs_sized, seq_dpsize}

chain_of_three : seq_dpsize (graph 3 (edge 0 1 ∷ edge 1 2 ∷ [])) ≡ pair_of 1 2 ∷ pair_of 2 4 ∷ pair_of 1 6 ∷ pair_of 3 4 ∷ []
unfolding graph edge seq_dpsize pairs_sized pairs_with pair_by_least is_joinable part connected_sets connected_of_size is_connected adjacent_to_members adjacent_if_member least subsets_after member members_below alone union inter minus single full size count_ones adjacency adjacent_to other_end count_trailing_zeros
chain_of_three = refl
