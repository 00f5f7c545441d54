use Rattle.std.proofs.Common.{ℕ, ◌<◌, List, ◌∙◌, ◌++◌, ap, subst, sym}
use Rattle.std.specs.List.{All}
use Rattle.dpe_base.specs.Queries.{relations}
use Rattle.dpe_top.proofs.Replanning.{again_so, change_text, listed_after, made_so, size_after}
use Rattle.dpe_top.proofs.planning.Planning.append_change.Goals as goal

pub planned_entry-requires-clause-aliases : goal.planned_entry-requires-clause-aliases
planned_entry-requires-clause-aliases g c κs within =
    size_after c.args.followed.now.kept.query c.change_all.new.kept.query c.args.change.now.rows c.uses_at-uses.result.now _ c.uses_at-uses.ensures c.in_ok-again.ensures.query _ c.requires.aliases

pub planned_entry-requires-clause-pairs : goal.planned_entry-requires-clause-pairs
planned_entry-requires-clause-pairs g c κs within =
    listed_after c.args.followed.now.kept.query c.change_all.new.kept.query c.args.change.now.rows c.uses_at-uses.result.now _ c.uses_at-uses.ensures c.in_ok-again.ensures.query _ c.requires.pairs

pub returns-clause-query : goal.returns-clause-query
returns-clause-query g c =
    made_so c.args.followed.now.kept.query c.change_all.new.kept.query c.args.change.now.rows c.uses_at-uses.result.now _ c.uses_at-uses.ensures c.in_ok-again.ensures.query

pub returns-clause-text : goal.returns-clause-text
returns-clause-text g c =
    let e = c.in_ok-entry.ensures in (
      c.in_ok-again.again,
      again_so c.args.followed.now.kept.query c.uses_at-uses.result.now _ _ c.in_ok-again.again c.uses_at-uses.ensures c.requires.pairs c.in_ok-again.ensures.again,
      (
        e.0,
        e.1,
        change_text c.args.out.now.items c.append.new.out.items c.append-2.new.out.items _ c.as_slice.result.now _
            (c.in_ok-append.ensures ∙ ap (λ xs. c.args.out.now.items ++ xs) (c.as_bytes.ensures.value ∙ c.in_ok-line.ensures)) c.in_ok-append-2.ensures (c.as_slice.ensures.value ∙ e.2),
      ),
    )

pub change_all-requires-clause-relations : goal.change_all-requires-clause-relations
change_all-requires-clause-relations g c κs within =
    subst (λ (rs : List ℕ). All (λ r. r < relations c.args.followed.now.kept.query) rs) (sym c.uses_at-uses.ensures) c.requires.made.uses
