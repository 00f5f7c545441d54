use Rattle.memo_table.proofs.Final.{settled_is_final}
use Rattle.memo_table.proofs.laws.settled_words_are_final.Goals as goal

pub returns : goal.returns
returns c = settled_is_final
