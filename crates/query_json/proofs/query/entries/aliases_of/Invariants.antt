use Rattle.std.proofs.Common.{◌≡◌, map, take}
use Rattle.query_json.proofs.query.entries.aliases_of.Given as goal

abbrev pub invariant-loop-relation : goal.invariant-loop-relation
invariant-loop-relation l = l.aliases ≡ map (λ r. r.alias) (take l.relation-index l.relations)
