use Rattle.dpe_top.proofs.Replanning.{HasMade}
use Rattle.dpe_top.proofs.planning.Planning.change_all.Given as goal

abbrev pub invariant-uses : goal.invariant-uses
invariant-uses g l = HasMade l.fn.kept.query l.kept.query l.rows l.uses l.r-index l.again
