use Rattle.std.proofs.Common.{◌≡◌, drop}
use Rattle.serde_json.specs.View.{view}
use Rattle.query_forms.specs.Changes.{changes_from}
use Rattle.query_forms.proofs.ChangeLaws.{behind}
use Rattle.query_forms.proofs.changes.changes_of.Given as goal

abbrev pub invariant-asked : goal.invariant-asked
invariant-asked l =
    behind l.changes.items (changes_from (view l.value) l.workload l.j (drop l.j l.asked)) ≡ changes_from (view l.value) l.workload 0 l.asked
