use Rattle.std.proofs.Common.{option_map, sym}
use Rattle.serde_json.specs.View.{view}
use Rattle.query_forms.proofs.WithinBounds.{changes_within}
use Rattle.query_forms.proofs.changes.read_changes.Goals as goal

pub returns-clause-within : goal.returns-clause-within
returns-clause-within c =
    changes_within (option_map (λ v. view v.now) c.get.result) (view c.in-Some-get.member.now) c.in_ok-workload.workload c.in-Some-2.asked.items c.as_slice.result.now c.in_ok-changes.changes
    (sym (rw (c.in-Some-2.is) at c.in_ok-asked.ensures.value)) c.as_slice.ensures.value c.in_ok-changes.ensures
