use Rattle.std.proofs.Common.{ℕ, ◌≤◌, List, subst, sym}
use Rattle.std.specs.List.{All}
use Rattle.dpe_base.specs.declared.TheConstants.{INPUT_CAP}
use Rattle.query_forms.specs.Changes.{AreRelationsOf}
use Rattle.query_forms.specs.declared.changes.Change.{Change}
use Rattle.dpe_top.specs.Modes.Replan.{IsEntryText, uses_at}
use Rattle.dpe_top.proofs.Replanning.{all_listed, all_of_entry, entry_more}
use Rattle.dpe_top.proofs.planning.Planning.text_under.Goals as goal

pub entries-preserved : goal.entries-preserved
entries-preserved g c =
    let t = c.in_ok-append_replanned.ensures in
    entry_more c.args.self.now c.args.file.now.changes c.args.file.now.workload c.entries.i c.entry.result.now c.entries.out.items c.append_replanned.new.out.items t.0 c.entries.invariant
    c.entry.ensures.value (subst (λ (cs : List Change). IsEntryText c.args.self.now cs c.entries.i c.entry.result.now.name c.entry.result.now.part t.0) c.as_slice-changes.ensures t.1) t.2

pub returns : goal.returns
returns g c =
    all_listed c.args.self.now c.args.file.now.changes c.args.file.now.workload c.entries.i c.entries.out.items c.entries.invariant
    (subst (λ (n : ℕ). n ≤ c.entries.i) c.len-i-end.ensures c.entries-test.false)

pub append_replanned-requires-clause-within : goal.append_replanned-requires-clause-within
append_replanned-requires-clause-within g c κs within =
    subst (λ (cs : List Change). All (λ x. (x.rows ≤ INPUT_CAP) × AreRelationsOf c.entry.result.now.part (uses_at c.entries.i x)) cs) (sym c.as_slice-changes.ensures)
    (all_of_entry c.args.file.now.workload c.entries.i c.entry.result.now c.args.file.now.changes c.requires.within c.entry.ensures.value)
