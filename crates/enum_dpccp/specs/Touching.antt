-- The pairs that a change of one relation touches.
use Rattle.std.specs.Prelude.{ℕ, Bool, ◌==◌, ◌⊎◌, List}
use Rattle.std.specs.List.{filter}
use Rattle.dpe_base.specs.declared.pair.Pair.{Pair}
use Rattle.dpe_base.specs.Sets.{Has, Within, member, union, single}
use Rattle.join_graph.specs.Graphs.{JoinGraph}
use Rattle.pair_stream.specs.Connectivity.{neighbours}

-- the union of the pair has relation r
abbrev pub touches : ℕ → Pair → Bool
touches r p = member (union p.a p.b) r == 1

-- the pairs whose union has relation r, in the order of the list
abbrev pub touching : ℕ → List Pair → List Pair
touching r pairs = filter (touches r) pairs

-- the second sides whose union with a has relation r
abbrev pub touching_sides : ℕ → ℕ → List ℕ → List ℕ
touching_sides r a bs = filter (λ b. member (union a b) r == 1) bs

-- relation r is in x, or all its neighbours are
abbrev pub StandsAlone : JoinGraph → ℕ → ℕ → Type 0
StandsAlone g x r = Has x r ⊎ Within (neighbours g (single r)) x
