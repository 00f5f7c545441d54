use Rattle.card_scaled.proofs.Rounding.{norm_keeps}
use Rattle.card_scaled.proofs.laws.norm_keeps_the_top_digits.Goals as goal

pub returns : goal.returns
returns c = norm_keeps
