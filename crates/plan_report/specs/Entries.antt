-- What a report says of one query.
use Rattle.std.specs.Prelude.{ℕ, List, Option}
use Rattle.dpe_base.specs.Queries.{JoinQuery}
use Rattle.query_json.specs.declared.refusal.QueryRefusal.{QueryRefusal}
use Rattle.join_tree.specs.Trees.{JoinTree}
use Rattle.plan_report.specs.declared.entry.Stats.{Stats}

-- a query's name, the aliases of its relations, the model's number, the query, its tree, the number of its
-- pairs, and how they were enumerated where that is asked for
pub record PlannedQuery : Type 0 where
  pub name : List ℕ
  pub aliases : List (List ℕ)
  pub kind : ℕ
  pub query : JoinQuery
  pub tree : JoinTree
  pub pairs : ℕ
  pub stats : Option Stats

-- a query's plan, or its name and why it is refused
pub data ReportEntry : Type 0 where
  planned : PlannedQuery → ReportEntry
  refused : List ℕ → QueryRefusal → ReportEntry
