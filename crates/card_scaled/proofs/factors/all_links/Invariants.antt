use Rattle.std.proofs.Common.{◌≡◌, map}
use Rattle.std.specs.List.{range_with_len}
use Rattle.card_scaled.specs.Sparse.{links_up}
use Rattle.card_scaled.proofs.factors.all_links.Given as goal

abbrev pub invariant-loop-r : goal.invariant-loop-r
invariant-loop-r l = map (λ v. v.items) l.all.items ≡ map (links_up l.query) (range_with_len 0 l.r)
