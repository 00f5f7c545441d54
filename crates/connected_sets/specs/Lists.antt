-- The connected sets, grown each from its least relation.
use Rattle.std.specs.Prelude.{ℕ, zero, suc, List, [], ◌∷◌, ◌++◌, map}
use Rattle.std.specs.List.{flat_map}
use Rattle.dpe_base.specs.Sets.{union, minus, single, full}
use Rattle.join_graph.specs.Graphs.{JoinGraph}
use Rattle.pair_stream.specs.Subsets.{subsets, descending}
use Rattle.pair_stream.specs.Connectivity.{neighbours}

-- the neighbours of s that are not in x
abbrev pub neighbours_outside : JoinGraph → ℕ → ℕ → ℕ
neighbours_outside g s x = minus (neighbours g s) x

-- EnumerateCsgRec: the larger connected sets that contain s and have no member of x outside s, in at
-- most `depth` steps from s. Those that one step reaches come first, then from each the ones beyond it.
unfoldable pub extensions : JoinGraph → ℕ → ℕ → ℕ → List ℕ
extensions g zero s x = []
extensions g (suc depth) s x =
    map (union s) (subsets (neighbours_outside g s x))
    ++ flat_map (λ t. extensions g depth (union s t) (union x (neighbours_outside g s x))) (subsets (neighbours_outside g s x))

-- with as many steps as there are relations
abbrev pub all_extensions : JoinGraph → ℕ → ℕ → List ℕ
all_extensions g s x = extensions g g.n s x

-- relation i alone, and its extensions without the members of x
unfoldable pub grown_from : JoinGraph → ℕ → ℕ → List ℕ
grown_from g x i = single i ∷ all_extensions g (single i) x

-- the connected sets with a least relation below n, by descending least relations
unfoldable pub sets_with_least_below : JoinGraph → ℕ → List ℕ
sets_with_least_below g n = flat_map (λ i. grown_from g (full (suc i)) i) (descending n)

-- EnumerateCsg: every connected set, by descending least relations
unfoldable pub sets_by_least : JoinGraph → List ℕ
sets_by_least g = sets_with_least_below g g.n
