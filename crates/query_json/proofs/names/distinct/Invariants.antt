use Rattle.std.proofs.Common.{◌≡◌, drop, map, []}
use Rattle.query_json.specs.Names.{distinct_after}
use Rattle.query_json.proofs.names.distinct.Given as goal

abbrev pub invariant-loop-item : goal.invariant-loop-item
invariant-loop-item g l =
    let label = g.T.HasName.label in
    distinct_after label (map (λ k. k.now) l.names.keys) (drop l.item-index l.items) ≡ distinct_after label [] l.items
