use Rattle.std.proofs.Common.{◌≡◌, drop}
use Rattle.query_json.specs.Queries.{all_of, rel_of}
use Rattle.query_json.proofs.Passes.{after}
use Rattle.query_json.proofs.query.scope.Scope.all_rels.Given as goal

abbrev pub invariant-loop-at : goal.invariant-loop-at
invariant-loop-at l = after l.rels.items (all_of (rel_of l.self.tables) l.at (drop l.at l.relations)) ≡ all_of (rel_of l.self.tables) 0 l.relations
