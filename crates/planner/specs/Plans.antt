-- What planning a query gives.
use Rattle.std.specs.Prelude.{◌≡◌, ℕ, ◌+◌, ◌*◌, List, length, Option}
use Rattle.dpe_base.specs.declared.pair.Pair.{Pair}
use Rattle.dpe_base.specs.Queries.{JoinQuery, relations}
use Rattle.dpe_base.specs.Sets.{full}
use Rattle.join_graph.specs.Graphs.{Connected, graph_of}
use Rattle.join_tree.specs.TreeOf.{tree_of}
use Rattle.pair_stream.specs.Orders.{Complete}
use Rattle.plan_space.specs.declared.class.Class.{Class}
use Rattle.reorder_buffer.specs.Groups.{runs, rounds}
use Rattle.dpe_engine.specs.Engines.{EnginePlan}
use Rattle.planner.specs.declared.options.Options.{Options}
use Rattle.planner.specs.declared.planning.Planned.{Planned}
use Rattle.planner.specs.Classes.{IsPlanAmong, ListsPairs}
use Rattle.planner.specs.Enumerations.{listed_of, worked_of, probes_of}

-- every relation of the query is reached from every other one
abbrev pub IsConnected : JoinQuery → Type 0
IsConnected q = Connected (graph_of q) (full (relations q))

-- n is how many csg-cmp-pairs the query has
abbrev pub IsPairCount : JoinQuery → ℕ → Type 0
IsPairCount q n = (all : List Pair) × Complete (graph_of q) all × (n ≡ length all)

-- n is how many of them a tree may have: any tree, or one of the class
abbrev pub IsPairCountIn : Option Class → JoinQuery → ℕ → Type 0
IsPairCountIn class q n = (all : List Pair) × ListsPairs class (graph_of q) all × (n ≡ length all)

-- the pairs that a tree may have, as the enumerator that is asked for lists them
abbrev pub listed_pairs : Options → JoinQuery → List Pair
listed_pairs o q = listed_of o.class o.enumerator (graph_of q)

-- those that the workers process
abbrev pub worked_pairs : Options → JoinQuery → List Pair
worked_pairs o q = worked_of o.class o.enumerator (graph_of q)

-- the plan of the query, and the counts of the run that was asked for
pub record IsPlanOf (model : ℕ) (o : Options) (q : JoinQuery) (p : Planned) : Type 0 where
  -- the tree over all relations whose every subtree is least by the model, among all trees or those of the class
  pub plan : IsPlanAmong o.class model q (full (relations q)) (tree_of p.tree)
  -- the list has exactly the csg-cmp-pairs of the query, or those of the class, each once, and so many
  pub listed : ListsPairs o.class (graph_of q) (listed_pairs o q)
  pub pairs : p.pairs ≡ length (listed_pairs o q)
  -- those that the workers process were taken by buffers as large as was asked for
  pub buffers : p.buffers ≡ length (runs o.buffer (worked_pairs o q))
  pub rounds : p.rounds ≡ rounds o.buffer (worked_pairs o q)
  pub probes : p.probes ≡ probes_of o.class o.enumerator (graph_of q)
  -- a ticket was drawn for each of them, and by each worker one past the pairs in each round
  pub drawn : p.drawn ≡ length (worked_pairs o q) + o.workers * p.rounds

-- the engine that the options ask for, over the pairs
abbrev pub engine_of : Options → JoinQuery → List Pair → EnginePlan
engine_of o q pairs = record { query = q; pairs = pairs; buffer = o.buffer; workers = o.workers }
