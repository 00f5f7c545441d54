use Rattle.std.proofs.Common.{◌≡◌, ◌++◌, drop}
use Rattle.serde_json.specs.View.{view}
use Rattle.query_forms.specs.Changes.{uses_from}
use Rattle.query_forms.proofs.changes.uses_of.Given as goal

abbrev pub invariant-queries : goal.invariant-queries
invariant-queries l =
    l.all.items ++ uses_from l.table (view l.value) l.i (drop l.i l.workload) ≡ uses_from l.table (view l.value) 0 l.workload
