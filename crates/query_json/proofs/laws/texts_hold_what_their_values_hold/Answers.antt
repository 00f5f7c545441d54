use Rattle.query_json.proofs.FirstFaults.{texts_hold}
use Rattle.query_json.proofs.laws.texts_hold_what_their_values_hold.Goals as goal

pub returns : goal.returns
returns c = texts_hold
