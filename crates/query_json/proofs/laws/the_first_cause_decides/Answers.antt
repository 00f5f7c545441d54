use Rattle.query_json.proofs.FirstCauses.{first_cause}
use Rattle.query_json.proofs.laws.the_first_cause_decides.Goals as goal

pub returns : goal.returns
returns c = first_cause
