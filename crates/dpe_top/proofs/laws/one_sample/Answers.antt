use Rattle.dpe_top.proofs.OneSample.{one_sample as law}
use Rattle.dpe_top.proofs.laws.one_sample.Goals as goal

pub returns : goal.returns
returns c = law
