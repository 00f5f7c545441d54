use Rattle.std.proofs.Common.{◌∙◌, ap, sym, true≢false}
use Rattle.plan_report.specs.declared.certs.fault.CertFault.TheVariants.{NotJson}
use Rattle.plan_report.specs.Certs.Faults.{or_fault}
use Rattle.plan_report.proofs.CertTexts.{json_none, json_text}
use Rattle.plan_report.proofs.certs.read.value_of.Goals as goal

pub returns-in-Ok : goal.returns-in-Ok
returns-in-Ok c =
    let read = c.in-Ok.ensures.ok in
    ap (or_fault NotJson) (json_text c.args.bytes.now read.0 ∙ read.1)

pub returns-else-is_memory : goal.returns-else-is_memory
returns-else-is_memory c =
    ap (or_fault NotJson)
    (json_none c.args.bytes.now (c.in-Err.ensures.err (λ m. true≢false (sym (c.is_memory.ensures.1 m) ∙ c.if-is_memory.false))))
