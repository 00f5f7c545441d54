use Rattle.query_forms.proofs.TextLaws.{texts_stay}
use Rattle.query_forms.proofs.laws.rewriting_texts_again_changes_nothing.Goals as goal

pub returns : goal.returns
returns c = texts_stay
