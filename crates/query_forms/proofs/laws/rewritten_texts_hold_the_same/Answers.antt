use Rattle.query_forms.proofs.TextLaws.{texts_keep}
use Rattle.query_forms.proofs.laws.rewritten_texts_hold_the_same.Goals as goal

pub returns : goal.returns
returns c = texts_keep
