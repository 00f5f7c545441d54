use Rattle.query_json.proofs.DecimalLaws.{IsReadTo}
use Rattle.query_json.proofs.walk.decimal.over_tens.Given as goal

abbrev pub invariant-loop-digit : goal.invariant-loop-digit
invariant-loop-digit l = IsReadTo l.first l.decimals l.digit-index l.num l.den
