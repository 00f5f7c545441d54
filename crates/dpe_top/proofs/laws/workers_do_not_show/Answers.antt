use Rattle.dpe_top.proofs.OneReport.{workers_do_not_show as law}
use Rattle.dpe_top.proofs.laws.workers_do_not_show.Goals as goal

pub returns : goal.returns
returns c = law
