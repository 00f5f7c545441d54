use Rattle.dpe_top.proofs.Replanning.{HasListed}
use Rattle.dpe_top.proofs.planning.Planning.text_under.Given as goal

abbrev pub invariant-entries : goal.invariant-entries
invariant-entries g l = HasListed l.self l.file.changes l.file.workload l.i l.out.items
