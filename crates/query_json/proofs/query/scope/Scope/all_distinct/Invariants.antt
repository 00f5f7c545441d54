use Rattle.std.proofs.Common.{◌≡◌, drop}
use Rattle.query_json.specs.Queries.{all_of, each_of, most_distinct}
use Rattle.query_json.proofs.Passes.{after}
use Rattle.query_json.proofs.query.scope.Scope.all_distinct.Given as goal

abbrev pub invariant-loop-at : goal.invariant-loop-at
invariant-loop-at l = after l.all.items (all_of (λ at. most_distinct l.self.tables l.self.item.relations) l.at (drop l.at l.joins)) ≡ each_of (most_distinct l.self.tables l.self.item.relations) l.joins
