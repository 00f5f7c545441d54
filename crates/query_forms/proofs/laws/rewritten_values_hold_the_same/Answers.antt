use Rattle.query_forms.proofs.RewrittenFiles.{hold_the_same}
use Rattle.query_forms.proofs.laws.rewritten_values_hold_the_same.Goals as goal

pub returns : goal.returns
returns c = hold_the_same
