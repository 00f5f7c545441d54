use Rattle.dpe_top.proofs.OneReport.{one_report as law}
use Rattle.dpe_top.proofs.laws.one_report.Goals as goal

pub returns : goal.returns
returns c = law
