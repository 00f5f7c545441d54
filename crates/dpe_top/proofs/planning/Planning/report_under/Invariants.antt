use Rattle.dpe_top.proofs.Reporting.{HasSaid}
use Rattle.dpe_top.proofs.planning.Planning.report_under.Given as goal

abbrev pub invariant-entries : goal.invariant-entries
invariant-entries g l = HasSaid l.self l.workload l.i l.report
