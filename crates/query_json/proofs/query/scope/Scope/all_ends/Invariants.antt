use Rattle.std.proofs.Common.{◌≡◌, drop}
use Rattle.query_json.specs.Queries.{all_of, each_of, ends_of}
use Rattle.query_json.proofs.Passes.{after}
use Rattle.query_json.proofs.query.scope.Scope.all_ends.Given as goal

abbrev pub invariant-loop-join : goal.invariant-loop-join
invariant-loop-join l = after l.all.items (all_of (λ at. ends_of l.self.item.relations) l.join-index (drop l.join-index l.joins)) ≡ each_of (ends_of l.self.item.relations) l.joins
