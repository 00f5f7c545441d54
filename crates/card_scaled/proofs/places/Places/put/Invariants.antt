use Rattle.std.proofs.Common.{◌≡◌, ◌≤◌}
use Rattle.card_scaled.proofs.places.Places.put.Given as goal

abbrev pub invariant-places : goal.invariant-places
invariant-places l = record { within : l.at ≤ l.self.last; same : l.self ≡ l.initial.self }
