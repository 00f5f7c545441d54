use Rattle.std.proofs.Common.{◌≤◌, ◌^◌, ◌*◌, ◌-◌}
use Rattle.card_scaled.proofs.places.places_for.Given as goal

abbrev pub invariant-sizes : goal.invariant-sizes
invariant-sizes l = record { some : 16 ≤ l.size; few : l.size ≤ 2 ^ 34 }

abbrev pub decreases-sizes : goal.decreases-sizes
decreases-sizes l = 2 * l.count - l.size
