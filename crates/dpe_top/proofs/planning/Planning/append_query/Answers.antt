use Rattle.std.proofs.Common.{◌∙◌, ◌++◌, ap, subst, sym}
use Rattle.std.specs.List.{All}
use Rattle.dpe_base.specs.Queries.{JoinQuery}
use Rattle.dpe_top.specs.Modes.Replan.{CanBeMade}
use Rattle.dpe_top.proofs.Replanning.{listed_in, query_text}
use Rattle.dpe_top.proofs.planning.Planning.append_query.Goals as goal

pub planned_entry-requires-clause-pairs : goal.planned_entry-requires-clause-pairs
planned_entry-requires-clause-pairs g c κs within =
    listed_in c.args.query.now c.in_ok-followed.followed.kept.query _ c.in_ok-followed.ensures.query c.in_ok-followed.ensures.listed

pub returns : goal.returns
returns g c =
    query_text c.args.self.now c.args.changes.now c.args.subject.now.place c.args.subject.now.name.now c.args.query.now c.in_ok-followed.followed.kept.query c.args.subject.now.aliases.now
    c.args.out.now.items c.append.new.out.items c.append_changes.new.out.items c.in_ok-entry.entry.items c.in_ok-followed.ensures.query c.in_ok-entry.ensures
    (c.in_ok-append.ensures ∙ ap (λ xs. c.args.out.now.items ++ xs) c.as_slice.ensures.value) c.in_ok-append_changes.ensures

pub append_changes-requires-clause-made : goal.append_changes-requires-clause-made
append_changes-requires-clause-made g c κs within =
    subst (λ (x : JoinQuery). All (CanBeMade x c.args.subject.now.place) c.args.changes.now) (sym c.in_ok-followed.ensures.query) c.requires.made
