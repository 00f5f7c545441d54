-- The options that a planner takes.
use Rattle.std.specs.Prelude.{◌≤◌}
use Rattle.dpe_base.specs.declared.TheConstants.{WORKERS_MAX, BUFFER_MAX}
use Rattle.planner.specs.declared.options.Options.{Options}

-- a buffer holds 1 to BUFFER_MAX pairs, and 1 to WORKERS_MAX workers share the memo
pub record AreAllowed (o : Options) : Type 0 where
  pub buffer : (1 ≤ o.buffer) × (o.buffer ≤ BUFFER_MAX)
  pub workers : (1 ≤ o.workers) × (o.workers ≤ WORKERS_MAX)
