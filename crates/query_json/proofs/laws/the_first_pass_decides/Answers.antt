use Rattle.query_json.proofs.FirstPasses.{first_pass}
use Rattle.query_json.proofs.laws.the_first_pass_decides.Goals as goal

pub returns : goal.returns
returns c = first_pass
