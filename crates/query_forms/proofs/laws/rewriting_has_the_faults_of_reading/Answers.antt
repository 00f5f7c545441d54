use Rattle.query_forms.proofs.TextLaws.{same_faults}
use Rattle.query_forms.proofs.laws.rewriting_has_the_faults_of_reading.Goals as goal

pub returns : goal.returns
returns c = same_faults
