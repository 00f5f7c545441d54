use Rattle.std.proofs.Common.{sym, ◌∙◌}
use Rattle.dpe_top.proofs.Reporting.{refused_at, none_more}
use Rattle.dpe_top.proofs.modes.plan.has_refused.Goals as goal

pub returns-then-is_refused : goal.returns-then-is_refused
returns-then-is_refused c =
    sym (refused_at c.args.workload.now c.loop-i.i c.entry.result.now c.entry.ensures.value (sym c.is_refused.ensures ∙ c.if-is_refused.true))

pub loop-i-preserved : goal.loop-i-preserved
loop-i-preserved c =
    none_more c.args.workload.now c.loop-i.i c.entry.result.now c.entry.ensures.value c.loop-i.invariant (sym c.is_refused.ensures ∙ c.if-is_refused.false)
