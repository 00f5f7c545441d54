-- What the stream of DPsub has still to give.
use Rattle.std.specs.Prelude.{ℕ, suc, ◌-◌, List, ◌++◌, map}
use Rattle.std.specs.List.{range_with_len, filter, flat_map}
use Rattle.dpe_base.specs.declared.pair.Pair.{Pair}
use Rattle.dpe_base.specs.Sets.{minus, full}
use Rattle.join_graph.specs.Graphs.{JoinGraph, pair_of}
use Rattle.pair_stream.specs.Subsets.{subsets_after}
use Rattle.pair_stream.specs.Dpsub.{is_split, splits_of}

-- the pairs after the first side a of the union s
unfoldable pub dpsub_left : JoinGraph → ℕ → ℕ → List Pair
dpsub_left g s a =
    map (λ a. pair_of a (minus s a)) (filter (is_split g s) (subsets_after a s))
    ++ flat_map (splits_of g) (range_with_len (suc s) (full g.n - s))
