use Rattle.enum_dpsize.proofs.RowLaws.{least_by}
use Rattle.enum_dpsize.proofs.pairs.least.Goals as goal

pub returns-in-Some : goal.returns-in-Some
returns-in-Some c = least_by c.args.graph.now c.args.x c.in-Some.r c.recall.ensures c.requires c.in-Some.ensures
