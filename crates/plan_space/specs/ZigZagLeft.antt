-- What the stream of zig-zag pairs has still to give.
use Rattle.std.specs.Prelude.{ℕ, suc, ◌-◌, List, ◌++◌, map}
use Rattle.std.specs.List.{range_with_len, filter, flat_map}
use Rattle.dpe_base.specs.declared.pair.Pair.{Pair}
use Rattle.dpe_base.specs.Sets.{full}
use Rattle.join_graph.specs.Graphs.{JoinGraph}
use Rattle.plan_space.specs.ZigZag.{can_be_taken, taken_from, zig_zag_splits}

-- the pairs from the relation r of the union s on
unfoldable pub zig_zag_left : JoinGraph → ℕ → ℕ → List Pair
zig_zag_left g s r =
    map (taken_from s) (filter (can_be_taken g s) (range_with_len r (g.n - r)))
    ++ flat_map (zig_zag_splits g) (range_with_len (suc s) (full g.n - s))
