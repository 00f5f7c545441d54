use Rattle.std.proofs.Common.{◌≡◌, ℕ, ◌<◌}
use Rattle.dpe_base.specs.Sets.{single}
use Rattle.cert_check.specs.Certificates.{bound_of}
use Rattle.cert_check.proofs.check.relations_free.Given as goal

abbrev pub invariant-loop-r : goal.invariant-loop-r
invariant-loop-r l = (r : ℕ) → r < l.r → bound_of l.bounds (single r) ≡ 0
