use Rattle.std.proofs.Common.{◌≡◌, map, take}
use Rattle.card_scaled.specs.Cards.{base_of}
use Rattle.card_scaled.proofs.factors.bases_of.Given as goal

abbrev pub invariant-loop-rel : goal.invariant-loop-rel
invariant-loop-rel l = l.bases.items ≡ map base_of (take l.rel-index l.query.rels)
