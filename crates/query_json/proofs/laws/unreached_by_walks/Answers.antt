use Rattle.query_json.proofs.UnreachedLaws.{first_unreached_is}
use Rattle.query_json.proofs.laws.unreached_by_walks.Goals as goal

pub returns : goal.returns
returns c = first_unreached_is
