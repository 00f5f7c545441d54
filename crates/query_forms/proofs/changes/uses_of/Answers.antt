use Rattle.std.proofs.Common.{option_map, ◌∙◌}
use Rattle.serde_json.specs.View.{view}
use Rattle.query_forms.proofs.ChangeLaws.{entry_here, uses_here}
use Rattle.query_forms.proofs.changes.uses_of.Goals as goal

pub queries-preserved : goal.queries-preserved
queries-preserved c =
    let l = c.queries in
    let rs = option_map (λ v. view v.now) c.relations_at-relations.result in
    let here = entry_here c.args.workload.now l.i c.entry.result.now c.entry.ensures.value in
    uses_here c.args.table.now (view c.args.value.now) c.args.workload.now l.i c.entry.result.now l.all.items c.push.new.self.items c.in_ok-uses.uses rs
    c.in_ok-push.ensures.items here c.relations_at-relations.ensures c.in_ok-uses.ensures
    ∙ l.invariant
