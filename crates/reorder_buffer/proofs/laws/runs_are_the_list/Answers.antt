use Rattle.reorder_buffer.proofs.RunLaws.{runs_are_the_list}
use Rattle.reorder_buffer.proofs.laws.runs_are_the_list.Goals as goal

pub returns : goal.returns
returns c = runs_are_the_list
