use Rattle.dpe_top.proofs.OneReport.{only_statistics_show_the_enumerator as law}
use Rattle.dpe_top.proofs.laws.only_statistics_show_the_enumerator.Goals as goal

pub returns : goal.returns
returns c = law
