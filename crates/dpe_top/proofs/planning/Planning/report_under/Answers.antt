use Rattle.dpe_top.proofs.Reporting.{said_more}
use Rattle.dpe_top.proofs.planning.Planning.report_under.Goals as goal

pub entries-preserved : goal.entries-preserved
entries-preserved g c =
    let said = c.in_ok-append_entry.ensures in
    said_more c.args.self.now c.args.workload.now c.entries.i c.entries.report c.append_entry.new.report c.entry.result.now said.0 c.entries.invariant c.entry.ensures.value said.1 said.2
