use Rattle.reorder_buffer.proofs.Weights.{groups_are_the_pairs}
use Rattle.reorder_buffer.proofs.laws.groups_lose_and_double_nothing.Goals as goal

pub returns : goal.returns
returns c = groups_are_the_pairs
