use Rattle.reopt.proofs.FromScratch.{least_words_can_be_kept}
use Rattle.reopt.proofs.laws.least_words_can_be_kept.Goals as goal

pub returns : goal.returns
returns c = least_words_can_be_kept
