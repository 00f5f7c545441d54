use Rattle.query_json.proofs.LeastPlaces.{least_places}
use Rattle.query_json.proofs.laws.passes_refuse_the_least_place.Goals as goal

pub returns : goal.returns
returns c = least_places
