use Rattle.query_json.proofs.Repeats.{tables_by_place}
use Rattle.query_json.proofs.laws.duplicate_tables_by_place.Goals as goal

pub returns : goal.returns
returns c = tables_by_place
