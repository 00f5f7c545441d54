use Rattle.std.proofs.Common.{◌≤◌}
use Rattle.card_scaled.proofs.places.Places.find.Given as goal

abbrev pub invariant-places : goal.invariant-places
invariant-places l = l.at ≤ l.self.last
