use Rattle.std.proofs.Common.{◌≡◌, take}
use Rattle.query_json.proofs.tables.all_known.Given as goal

abbrev pub invariant-loop-table : goal.invariant-loop-table
invariant-loop-table l = l.known.items ≡ take l.table-index l.tables
