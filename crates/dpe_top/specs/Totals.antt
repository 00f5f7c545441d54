-- Sums that grow query by query.
use Rattle.std.specs.Prelude.{ℕ, ◌+◌, ◌≤◌, length}
use Rattle.dpe_base.specs.Queries.{JoinQuery, relations}
use Rattle.dpe_top.specs.declared.modes.sample.Share.{Share}
use Rattle.dpe_top.specs.declared.modes.sample.Totals.{Totals}

-- the sums with one query more
abbrev pub with_query : Totals → JoinQuery → Share → Totals
with_query t q share = record {
  queries = t.queries + 1;
  relations = t.relations + relations q;
  joins = t.joins + length q.preds;
  pairs = t.pairs + share.pairs;
  cost = t.cost + share.cost;
}

-- no sum is above the bound
pub record AreAtMost (bound : ℕ) (t : Totals) : Type 0 where
  pub queries : t.queries ≤ bound
  pub relations : t.relations ≤ bound
  pub joins : t.joins ≤ bound
  pub pairs : t.pairs ≤ bound
  pub cost : t.cost ≤ bound
