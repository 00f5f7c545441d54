use Rattle.std.proofs.Common.{◌≡◌, drop, map, take}
use Rattle.query_json.specs.Names.{distinct_after, distinct_names}
use Rattle.query_json.proofs.query.aliases.check_aliases.Given as goal

abbrev pub invariant-relations : goal.invariant-relations
invariant-relations l =
    distinct_after (λ r. r.alias) (map (λ r. r.alias) (take l.at l.relations)) (drop l.at l.relations) ≡ distinct_names (λ r. r.alias) l.relations
