-- What each enumerator gives of a join graph, and what is taken of it for a class of trees.
use Rattle.std.specs.Prelude.{◌≡◌, ◌≢◌, ℕ, List, [], Option, Some, None, Bool, true, false}
use Rattle.dpe_base.specs.declared.kind.Kind.{Kind}
use Rattle.dpe_base.specs.declared.kind.Kind.TheVariants.{DpCcp, DpSub, DpSize, DpSva}
use Rattle.dpe_base.specs.declared.pair.Pair.{Pair}
use Rattle.join_graph.specs.Graphs.{JoinGraph}
use Rattle.pair_stream.specs.Orders.{Complete, Ordered}
use Rattle.pair_stream.specs.Dpsub.{seq_dpsub}
use Rattle.enum_dpccp.specs.Dpccp.{seq_dpccp}
use Rattle.enum_dpsize.specs.Dpsize.{seq_dpsize}
use Rattle.enum_dpsize.specs.Dpsva.{dpsva_probes}
use Rattle.plan_space.specs.declared.class.Class.{Class}
use Rattle.plan_space.specs.declared.class.Class.TheVariants.{Narrow, ZigZag, LeftDeep}
use Rattle.plan_space.specs.Thin.{thin}
use Rattle.plan_space.specs.ZigZag.{seq_zig_zag}
use Rattle.planner.specs.Classes.{ListsPairs}

-- the pairs in the enumerator's order
abbrev pub pairs_of : Kind → JoinGraph → List Pair
pairs_of DpCcp g = seq_dpccp g
pairs_of DpSub g = seq_dpsub g
pairs_of DpSize g = seq_dpsize g
pairs_of DpSva g = seq_dpsize g

-- how many entries it looks at through skip vectors
abbrev pub total_probes : Kind → JoinGraph → ℕ
total_probes DpCcp g = 0
total_probes DpSub g = 0
total_probes DpSize g = 0
total_probes DpSva g = dpsva_probes g

-- these pairs, and as many probes in all, are the enumerator's; they are all pairs of the graph, each after those that
-- build its sides
pub record IsEnumeration (enumerator : Kind) (g : JoinGraph) (pairs : List Pair) (probes : ℕ) : Type 0 where
  pub list : pairs ≡ pairs_of enumerator g
  pub complete : Complete g pairs
  pub ordered : Ordered pairs
  pub looked : probes ≡ total_probes enumerator g

-- the pairs that a tree may have, as they are listed: all, or those of the class. Zig-zag pairs are listed without an enumerator
abbrev pub listed_of : Option Class → Kind → JoinGraph → List Pair
listed_of None enumerator g = pairs_of enumerator g
listed_of (Some Narrow) enumerator g = thin 2 (pairs_of enumerator g)
listed_of (Some ZigZag) enumerator g = seq_zig_zag g
listed_of (Some LeftDeep) enumerator g = seq_zig_zag g

-- those that the workers process: left-deep plans are found without workers
abbrev pub worked_of : Option Class → Kind → JoinGraph → List Pair
worked_of None enumerator g = pairs_of enumerator g
worked_of (Some Narrow) enumerator g = thin 2 (pairs_of enumerator g)
worked_of (Some ZigZag) enumerator g = seq_zig_zag g
worked_of (Some LeftDeep) enumerator g = []

-- the probes where the enumerator is used
abbrev pub probes_of : Option Class → Kind → JoinGraph → ℕ
probes_of None enumerator g = total_probes enumerator g
probes_of (Some Narrow) enumerator g = total_probes enumerator g
probes_of (Some ZigZag) enumerator g = 0
probes_of (Some LeftDeep) enumerator g = 0

-- all trees are asked for, or those of the class Narrow
abbrev pub IsAllOrNarrow : Option Class → Bool → Type 0
IsAllOrNarrow class false = class ≡ None
IsAllOrNarrow class true = class ≡ Some Narrow

-- these pairs, and as many probes in all, are what workers process for the plan: the pairs that a tree may have, each after
-- those that build its sides
pub record IsListing (class : Option Class) (enumerator : Kind) (g : JoinGraph) (pairs : List Pair) (probes : ℕ) : Type 0 where
  pub list : pairs ≡ listed_of class enumerator g
  pub whole : ListsPairs class g pairs
  pub ordered : Ordered pairs
  pub looked : probes ≡ probes_of class enumerator g
  pub workers : class ≢ Some LeftDeep
