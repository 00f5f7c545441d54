use Rattle.std.proofs.Common.{◌≡◌}
use Rattle.dpe_base.specs.Queries.{relations}
use Rattle.reopt.proofs.tests.change_all.Given as goal

abbrev pub invariant-relations : goal.invariant-relations
invariant-relations g l = relations l.kept.query ≡ l.n

abbrev pub invariant-changes : goal.invariant-changes
invariant-changes g l = relations l.kept.query ≡ l.n
