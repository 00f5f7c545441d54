use Rattle.query_json.proofs.FirstFaults.{first_fault}
use Rattle.query_json.proofs.laws.the_first_broken_place_is_the_fault.Goals as goal

pub returns : goal.returns
returns c = first_fault
