use Rattle.connected_sets.proofs.GrownLaws.{subsets_first}
use Rattle.connected_sets.proofs.laws.subsets_come_first.Goals as goal

pub returns : goal.returns
returns c g ok = subsets_first g ok
