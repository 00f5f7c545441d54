-- What is asked of a plan and of the pairs: of all trees, or of those of a class.
use Rattle.std.specs.Prelude.{ℕ, List, Option, Some, None}
use Rattle.dpe_base.specs.declared.pair.Pair.{Pair}
use Rattle.dpe_base.specs.Queries.{JoinQuery}
use Rattle.join_graph.specs.Graphs.{JoinGraph}
use Rattle.join_tree.specs.Trees.{JoinTree, Plan}
use Rattle.join_tree.specs.Words.{HasBestWords}
use Rattle.pair_stream.specs.Orders.{Complete}
use Rattle.plan_space.specs.declared.class.Class.{Class}
use Rattle.plan_space.specs.declared.class.Class.TheVariants.{Narrow, ZigZag, LeftDeep}
use Rattle.plan_space.specs.Classes.{PlanIn}
use Rattle.plan_space.specs.LeastWords.{HasLeastWords}
use Rattle.plan_space.specs.Thin.{IsThinList}

-- the plan over s among all trees, or among those of the class
abbrev pub IsPlanAmong : Option Class → ℕ → JoinQuery → ℕ → JoinTree → Type 0
IsPlanAmong None model q s t = Plan model q s t
IsPlanAmong (Some c) model q s t = PlanIn c model q s t

-- the least word of each connected set within s
abbrev pub HasWordsAmong : Option Class → ℕ → JoinQuery → List ℕ → ℕ → Type 0
HasWordsAmong None model q words s = HasBestWords model q words s
HasWordsAmong (Some c) model q words s = HasLeastWords c model q words s

-- how many relations one side of each join has at most
abbrev pub width_of : Class → ℕ
width_of Narrow = 2
width_of ZigZag = 1
width_of LeftDeep = 1

-- the members are the csg-cmp-pairs of the graph, of a class those that have so narrow a side, each at one place
abbrev pub ListsPairs : Option Class → JoinGraph → List Pair → Type 0
ListsPairs None g pairs = Complete g pairs
ListsPairs (Some c) g pairs = IsThinList g (width_of c) pairs
