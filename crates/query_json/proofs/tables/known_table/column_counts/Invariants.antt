use Rattle.std.proofs.Common.{◌≡◌, ◌≤◌, ℕ, List, drop, length}
use Rattle.std.specs.Str.{bytes_eq}
use Rattle.indexmap.specs.IndexMap.{get_by}
use Rattle.query_json.specs.Columns.{distinct_in}
use Rattle.query_json.proofs.tables.known_table.column_counts.Given as goal

abbrev pub invariant-left : goal.invariant-left
invariant-left l = record {
  within : l.left ≤ length l.columns;
  found : (q : List ℕ) → get_by (λ k. bytes_eq q k.now) l.counts ≡ distinct_in q (drop l.left l.columns);
}

abbrev pub decreases-left : goal.decreases-left
decreases-left l = l.left
