use Rattle.std.proofs.Common.{◌≡◌, drop}
use Rattle.query_json.specs.Queries.{all_of, pred_of}
use Rattle.query_json.proofs.Passes.{after}
use Rattle.query_json.proofs.query.scope.Scope.all_preds.Given as goal

abbrev pub invariant-loop-at : goal.invariant-loop-at
invariant-loop-at l = after l.preds.items (all_of (pred_of l.self.tables l.self.item.relations) l.at (drop l.at l.joins)) ≡ all_of (pred_of l.self.tables l.self.item.relations) 0 l.joins
