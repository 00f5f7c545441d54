use Rattle.std.proofs.Common.{◌≡◌, drop}
use Rattle.query_json.specs.Columns.{distinct_in}
use Rattle.query_json.proofs.tables.known_table.distinct_in.Given as goal

abbrev pub invariant-loop-column : goal.invariant-loop-column
invariant-loop-column l = distinct_in l.name (drop l.column-index l.columns) ≡ distinct_in l.name l.columns
