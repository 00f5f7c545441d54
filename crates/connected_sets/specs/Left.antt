-- What the stream of the connected sets has still to give.
use Rattle.std.specs.Prelude.{ℕ, ◌≤◌, List, ◌++◌, Contains}
use Rattle.join_graph.specs.Graphs.{JoinGraph, Connected}
use Rattle.connected_sets.specs.declared.sets.ConnectedSets.{ConnectedSets}
use Rattle.connected_sets.specs.Lists.{sets_with_least_below}
use Rattle.connected_sets.specs.Growth.{growth_left, GrowthFits}

-- those of the growth come first
abbrev pub sets_left : JoinGraph → ConnectedSets → List ℕ
sets_left g f = growth_left g f.growth ++ sets_with_least_below g f.relations

pub record SetsFit (g : JoinGraph) (f : ConnectedSets) : Type 0 where
  pub growth : GrowthFits g f.growth
  pub relations : f.relations ≤ g.n
  pub connected : (a : ℕ) → Contains (sets_left g f) a → Connected g a
