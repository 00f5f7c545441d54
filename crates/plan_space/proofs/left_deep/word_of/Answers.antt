use Rattle.std.proofs.Common.{sym}
use Rattle.cost_model.proofs.WordLaws.{word-above}
use Rattle.plan_space.proofs.left_deep.word_of.Goals as goal

pub returns-in-None : goal.returns-in-None
returns-in-None c = sym (word-above c.args.cost c.args.op c.args.left c.in-None.ensures)
