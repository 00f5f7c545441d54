use Rattle.std.proofs.Common.{◌≡◌, drop}
use Rattle.query_json.specs.Queries.{checked, apart}
use Rattle.query_json.proofs.query.check_apart.Given as goal

abbrev pub invariant-loop-join : goal.invariant-loop-join
invariant-loop-join l = checked (apart) (drop l.join-index l.joins) ≡ checked (apart) l.joins
