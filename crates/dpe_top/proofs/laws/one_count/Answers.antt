use Rattle.dpe_top.proofs.OneSample.{one_count as law}
use Rattle.dpe_top.proofs.laws.one_count.Goals as goal

pub returns : goal.returns
returns c = law
