use Rattle.dpe_top.proofs.Replanning.{all_appended, change_more, listed_by, next_can, none_appended, size_by}
use Rattle.std.proofs.Common.{refl, ◌∙◌}
use Rattle.dpe_top.proofs.planning.Planning.append_changes.Goals as goal

pub append_change-requires-clause-aliases : goal.append_change-requires-clause-aliases
append_change-requires-clause-aliases g c κs within =
    size_by c.args.followed.now.kept.query c.changes.followed.kept.query c.changes.invariant.0.graph _ c.requires.aliases

pub append_change-requires-clause-pairs : goal.append_change-requires-clause-pairs
append_change-requires-clause-pairs g c κs within =
    listed_by c.args.followed.now.kept.query c.changes.followed.kept.query c.changes.invariant.0.graph c.args.followed.now.pairs c.changes.followed.pairs c.changes.invariant.1 c.requires.pairs

pub changes-init : goal.changes-init
changes-init g c =
    (none_appended c.args.self.now c.args.subject.now.name.now c.args.subject.now.aliases.now c.args.subject.now.place c.args.followed.now.kept.query c.args.changes.now c.args.out.now.items, refl)

pub changes-preserved : goal.changes-preserved
changes-preserved g c =
    let t = c.in_ok-append_change.ensures.text in (
      change_more c.args.self.now c.args.subject.now.name.now c.args.subject.now.aliases.now c.args.subject.now.place c.args.followed.now.kept.query c.changes.followed.kept.query
          c.append_change.new.followed.kept.query c.args.changes.now c.changes.j c.index-changes-j.result c.args.out.now.items c.changes.out.items c.append_change.new.out.items t.0 t.2.0
          c.changes.invariant.0 c.changes-test.true c.index-changes-j.is c.in_ok-append_change.ensures.query t.1 t.2.1 t.2.2,
      c.in_ok-append_change.ensures.pairs ∙ c.changes.invariant.1,
    )

pub returns : goal.returns
returns g c =
    all_appended c.args.self.now c.args.subject.now.name.now c.args.subject.now.aliases.now c.args.subject.now.place c.args.followed.now.kept.query c.changes.followed.kept.query
    c.args.changes.now c.changes.j c.args.out.now.items c.changes.out.items c.changes.invariant.0 c.changes-test.false

pub append_change-requires-clause-made : goal.append_change-requires-clause-made
append_change-requires-clause-made g c κs within =
    next_can c.args.followed.now.kept.query c.changes.followed.kept.query c.args.subject.now.place c.args.changes.now c.changes.j c.index-changes-j.result
    c.changes.invariant.0.graph c.requires.made c.changes-test.true c.index-changes-j.is
