use Rattle.std.proofs.Common.{◌≡◌, take}
use Rattle.std.specs.List.{fold, slice_get}
use Rattle.card_scaled.specs.Cards.{times_base}
use Rattle.card_scaled.specs.Sparse.{links_up, times_link}
use Rattle.card_scaled.proofs.factors.Factors.with_relation.Given as goal

abbrev pub invariant-links : goal.invariant-links
invariant-links l =
    l.product ≡ fold (times_link l.s) (times_base l.fn.c (slice_get l.query.rels l.r)) (take l.i (links_up l.query l.r))
