use Rattle.query_json.proofs.Repeats.{aliases_by_place}
use Rattle.query_json.proofs.laws.duplicate_aliases_by_place.Goals as goal

pub returns : goal.returns
returns c = aliases_by_place
