use Rattle.std.proofs.Common.{◌≡◌, drop}
use Rattle.serde_json.specs.View.{items_view}
use Rattle.query_forms.specs.Changes.{has_table}
use Rattle.query_forms.proofs.changes.has_table.Given as goal

abbrev pub invariant-tables : goal.invariant-tables
invariant-tables l = has_table l.name (items_view (drop l.table-index l.tables)) ≡ has_table l.name (items_view l.tables)
