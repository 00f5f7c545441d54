use Rattle.std.proofs.Common.{◌≡◌, map, take, nat_eq}
use Rattle.std.specs.List.{filter}
use Rattle.card_scaled.specs.Sparse.{link_of}
use Rattle.card_scaled.proofs.factors.links_up.Given as goal

abbrev pub invariant-loop-p : goal.invariant-loop-p
invariant-loop-p l = l.links.items ≡ map link_of (filter (λ p. nat_eq p.high l.r) (take l.p-index l.query.preds))
