use Rattle.card_scaled.proofs.Rounding.{least_above-whole, least_above-part}
use Rattle.card_scaled.proofs.laws.rows_are_rounded_up.Goals as goal

pub returns : goal.returns
returns c = (least_above-whole, least_above-part)
