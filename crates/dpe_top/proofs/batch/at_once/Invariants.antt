use Rattle.std.proofs.Common.{◌≤◌}
use Rattle.dpe_base.specs.declared.TheConstants.{N_MAX}
use Rattle.dpe_top.proofs.batch.at_once.Given as goal

abbrev pub invariant-entries : goal.invariant-entries
invariant-entries l = l.most ≤ N_MAX
