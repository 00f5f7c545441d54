use Rattle.std.proofs.Common.{◌≡◌, drop, map}
use Rattle.query_json.specs.Queries.{all_of, each_of, table_of}
use Rattle.query_json.proofs.Passes.{after}
use Rattle.query_json.proofs.query.known_tables.Given as goal

abbrev pub invariant-loop-relation : goal.invariant-loop-relation
invariant-loop-relation l = after (map (λ t. t.now) l.known.items) (all_of (λ at. table_of l.tables) l.relation-index (drop l.relation-index l.relations)) ≡ each_of (table_of l.tables) l.relations
