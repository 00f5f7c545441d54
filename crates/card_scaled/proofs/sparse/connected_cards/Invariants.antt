use Rattle.std.proofs.Common.{length}
use Rattle.connected_sets.specs.Left.{sets_left, SetsFit}
use Rattle.card_scaled.specs.Sparse.{AreCards}
use Rattle.card_scaled.proofs.sparse.connected_cards.Given as goal

abbrev pub invariant-sets : goal.invariant-sets
invariant-sets l = record { fits : SetsFit l.graph l.sets; cards : AreCards l.query l.known.items.items }

abbrev pub decreases-sets : goal.decreases-sets
decreases-sets l = length (sets_left l.graph l.sets)
