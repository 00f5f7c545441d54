use Rattle.std.proofs.Common.{◌≡◌}
use Rattle.dpe_top.proofs.Replanning.{HasAppended}
use Rattle.dpe_top.proofs.planning.Planning.append_changes.Given as goal

abbrev pub invariant-changes : goal.invariant-changes
invariant-changes g l =
    HasAppended l.self l.subject.name.now l.subject.aliases.now l.subject.place l.fn.followed.kept.query l.followed.kept.query l.changes l.j l.fn.out.items l.out.items
    × (l.followed.pairs ≡ l.fn.followed.pairs)
