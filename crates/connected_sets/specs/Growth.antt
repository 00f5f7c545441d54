-- What the calls of the recursion that are under way have still to give.
use Rattle.std.specs.Prelude.{◌≡◌, ◌≢◌, ℕ, suc, ◌+◌, ◌≤◌, List, [], ◌∷◌, ◌++◌, map, length}
use Rattle.std.specs.List.{flat_map}
use Rattle.dpe_base.specs.Sets.{Within, union, minus, full, size}
use Rattle.join_graph.specs.Graphs.{JoinGraph}
use Rattle.pair_stream.specs.Subsets.{subsets_after}
use Rattle.pair_stream.specs.Connectivity.{neighbours}
use Rattle.connected_sets.specs.declared.growth.Call.{Call}
use Rattle.connected_sets.specs.declared.growth.Child.{Child}
use Rattle.connected_sets.specs.declared.growth.Growth.{Growth}
use Rattle.connected_sets.specs.Lists.{neighbours_outside, all_extensions}

-- what the call that the subset t leads to gives
abbrev pub child_sets : JoinGraph → Call → ℕ → List ℕ
child_sets g c t = all_extensions g (union c.base t) c.excluded

-- what the calls for the subsets after t give
abbrev pub calls_after : JoinGraph → Call → ℕ → List ℕ
calls_after g c t = flat_map (child_sets g c) (subsets_after t c.neighbours)

-- the call's own sets after the subset `last`, and then its calls
unfoldable pub giving_left : JoinGraph → Call → List ℕ
giving_left g c = map (union c.base) (subsets_after c.last c.neighbours) ++ calls_after g c 0

-- the calls after the subsets `last`, those of the innermost call first
unfoldable pub calling_left : JoinGraph → List Call → List ℕ
calling_left g [] = []
calling_left g (c ∷ cs) = calling_left g cs ++ calls_after g c c.last

abbrev pub growth_left : JoinGraph → Growth → List ℕ
growth_left g w = giving_left g w.giving ++ calling_left g w.calling.items

-- a call that has nothing to give
abbrev pub spent_call : JoinGraph → Call
spent_call g = record { base = 0; neighbours = 0; excluded = full g.n; last = 0 }

-- a call with k calls around it
pub record CallFits (g : JoinGraph) (k : ℕ) (c : Call) : Type 0 where
  pub base_known : Within c.base (full g.n)
  pub neighbours_known : Within c.neighbours (full g.n)
  pub part : Within c.last c.neighbours
  pub base_excluded : Within c.base c.excluded
  pub joined_excluded : Within (neighbours g c.base) c.excluded
  pub neighbours_excluded : Within c.neighbours c.excluded
  pub room : k + 1 + size (minus (full g.n) c.excluded) ≤ g.n

abbrev pub CallsFit : JoinGraph → ℕ → List Call → Type 0
CallsFit g k [] = Unit {0}
CallsFit g k (c ∷ cs) = CallFits g k c × CallsFit g (suc k) cs

pub record GrowthFits (g : JoinGraph) (w : Growth) : Type 0 where
  pub calling : CallsFit g 0 w.calling.items
  pub giving : CallFits g (length w.calling.items) w.giving

-- the first call after the call's subset `last` that gives anything
pub record IsChild (g : JoinGraph) (c : Call) (child : Child) : Type 0 where
  pub neighbours : child.neighbours ≡ neighbours_outside g (union c.base child.last) c.excluded
  pub some : child.neighbours ≢ 0
  pub part : Within child.last c.neighbours
  pub left : calls_after g c c.last ≡ child_sets g c child.last ++ calls_after g c child.last

abbrev pub NoChild : JoinGraph → Call → Type 0
NoChild g c = calls_after g c c.last ≡ []
