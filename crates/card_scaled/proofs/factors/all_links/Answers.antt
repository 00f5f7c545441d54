use Rattle.std.proofs.Common.{◌∙◌, ap, sym, map, ◌++◌, ◌∷◌, [], ℕ}
use Rattle.std.specs.List.{range_with_len}
use Rattle.std.proofs.lemmas.List.{map-append}
use Rattle.card_scaled.specs.Sparse.{links_up}
use Rattle.card_scaled.proofs.SparseSteps.{links_more, same_end}
use Rattle.card_scaled.proofs.factors.all_links.Goals as goal

pub loop-r-preserved : goal.loop-r-preserved
loop-r-preserved c =
    ap (map (λ v. v.items)) c.in_ok-push.ensures.items
    ∙ map-append (λ v. v.items) c.loop-r.all.items (c.in_ok-links.links ∷ [])
    ∙ ap (λ xs. xs ++ c.in_ok-links.links.items ∷ []) c.loop-r.invariant
    ∙ ap (λ x. map (links_up c.args.query.now) (range_with_len 0 c.loop-r.r) ++ x ∷ []) c.in_ok-links.ensures
    ∙ sym (links_more (links_up c.args.query.now) c.loop-r.r)

pub returns : goal.returns
returns c =
    c.loop-r.invariant
    ∙ ap (λ (k : ℕ). map (links_up c.args.query.now) (range_with_len 0 k)) (same_end _ _ _ c.loop-r.auto.r-end c.loop-r-test.false c.n-r-end.ensures.value)
