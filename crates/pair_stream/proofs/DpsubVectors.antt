-- The vectors of the list by unions.
use Rattle.std.proofs.Common.{◌≡◌, refl, [], ◌∷◌}
use Rattle.std.specs.Int.Count.{count_trailing_zeros}
use Rattle.dpe_base.specs.Sets.{member, union, inter, minus, single, full, least}
use Rattle.join_graph.proofs.Samples.{edge, graph}
use Rattle.join_graph.specs.Graphs.{pair_of, adjacency, adjacent_to, other_end}
use Rattle.pair_stream.specs.Subsets.{subsets_after}
use Rattle.pair_stream.specs.Connectivity.{adjacent_if_member, adjacent_to_members, is_connected}
use Rattle.pair_stream.specs.Dpsub.{is_split, splits_of, seq_dpsub}

chain_of_three : seq_dpsub (graph 3 (edge 0 1 ∷ edge 1 2 ∷ [])) ≡ pair_of 1 2 ∷ pair_of 2 4 ∷ pair_of 1 6 ∷ pair_of 3 4 ∷ []
unfolding graph edge seq_dpsub splits_of is_split is_connected adjacent_to_members adjacent_if_member least subsets_after member union inter minus single full adjacency adjacent_to other_end count_trailing_zeros
chain_of_three = refl
