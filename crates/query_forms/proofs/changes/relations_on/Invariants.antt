use Rattle.std.proofs.Common.{◌≡◌, ◌++◌, ◌-◌, option_map}
use Rattle.std.specs.List.{filter, range_with_len}
use Rattle.serde_json.specs.View.{view}
use Rattle.query_forms.specs.Changes.{is_on}
use Rattle.query_forms.proofs.changes.relations_on.Given as goal

abbrev pub invariant-relations : goal.invariant-relations
invariant-relations l =
    let on = is_on l.table (option_map (λ v. view v.now) l.relations) in
    l.found.items ++ filter on (range_with_len l.r (l.n - l.r)) ≡ filter on (range_with_len 0 l.n)
