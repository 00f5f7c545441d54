use Rattle.query_forms.proofs.RewrittenFiles.{again_the_same}
use Rattle.query_forms.proofs.laws.rewriting_again_changes_nothing.Goals as goal

pub returns : goal.returns
returns c = again_the_same
