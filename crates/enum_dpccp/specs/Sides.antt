-- What the second sides of a first side have still to give.
use Rattle.std.specs.Prelude.{ℕ, List, ◌++◌}
use Rattle.dpe_base.specs.Sets.{Within, full}
use Rattle.join_graph.specs.Graphs.{JoinGraph}
use Rattle.enum_dpccp.specs.declared.sides.SecondSides.{SecondSides}
use Rattle.enum_dpccp.specs.Dpccp.{second_sides_from}
use Rattle.connected_sets.specs.Growth.{growth_left, GrowthFits}

-- those of the growth come first
abbrev pub second_left : JoinGraph → SecondSides → List ℕ
second_left g s = growth_left g s.growth ++ second_sides_from g s.excluded s.starts

pub record SecondFits (g : JoinGraph) (s : SecondSides) : Type 0 where
  pub growth : GrowthFits g s.growth
  pub starts : Within s.starts (full g.n)
