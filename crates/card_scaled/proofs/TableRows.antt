-- The table of a query whose connected sets alone are kept: its rows, and its copy of the query.
use Rattle.std.proofs.Common.{◌≡◌, ◌≢◌, ℕ, ◌^◌, ◌<◌, refl, sym, ◌∙◌, ap, subst, arith, Bool, not, IsTrue, List, [], ◌∷◌, All, length, map, slice_index, position, Some, None}
use Rattle.std.specs.List.{range_with_len, prefix_len}
use Rattle.std.proofs.lemmas.Bool.{le-ltb, ne_eqb}
use Rattle.std.proofs.lemmas.Grind.{get_or_default_zero}
use Rattle.std.proofs.lemmas.List.Elements.{All-head, All-tail}
use Rattle.std.proofs.lemmas.List.FromFn.{get_or-map-range_with_len, length-map-range_with_len}
use Rattle.dpe_base.specs.declared.TheConstants.{N_MAX, PREDS_MAX}
use Rattle.dpe_base.specs.declared.query.Pred.{Pred}
use Rattle.dpe_base.specs.declared.query.Rel.{Rel}
use Rattle.dpe_base.specs.declared.query.QueryFault.{QueryFault}
use Rattle.dpe_base.specs.Queries.{JoinQuery, IsQuery, relations, is_rel, is_pred, query_fault}
use Rattle.dpe_base.specs.Sets.{Within, full}
use Rattle.dpe_base.proofs.SizeLaws.{full_below}
use Rattle.card_scaled.specs.Cards.{RowTable, IsCardTable, rows}
use Rattle.card_scaled.specs.Sparse.{table_of}

-- ---- the copy of a query has no fault

prefix_whole : {X : Type 0} (test : X → Bool) (xs : List X) → All (λ x. IsTrue (test x)) xs → prefix_len (λ x. not (not (test x))) xs ≡ length xs
prefix_whole test [] all = refl
prefix_whole test (x ∷ xs) all =
    rw (All-head (λ x. IsTrue (test x)) x xs all, prefix_whole test xs (All-tail (λ x. IsTrue (test x)) x xs all)) (omega arith)

none_fails : {X : Type 0} (test : X → Bool) (xs : List X) → All (λ x. IsTrue (test x)) xs → position (λ x. not (test x)) xs ≡ None
none_fails test xs all = rw (prefix_whole test xs all, le-ltb (length xs) (length xs) (omega arith)) refl

no_fault : (q : JoinQuery) → IsQuery q → query_fault q.rels q.preds ≡ None
unfolding query_fault
no_fault q ok =
    let some : length q.rels ≢ 0 = omega (arith, ok.some) in
    rw (
      ne_eqb (length q.rels) 0 some,
      le-ltb N_MAX (length q.rels) ok.few,
      le-ltb PREDS_MAX (length q.preds) ok.few_preds,
      none_fails is_rel q.rels ok.rels,
      none_fails (is_pred (length q.rels)) q.preds ok.preds,
    ) refl

pub copy_has_no_fault : (q : JoinQuery) (rels : List Rel) (preds : List Pred) (fault : QueryFault) → IsQuery q → rels ≡ q.rels → preds ≡ q.preds → query_fault rels preds ≡ Some fault → ⊥
copy_has_no_fault q rels preds fault ok er ep e =
    some_is_not_none fault (sym e ∙ ap (λ l. query_fault l preds) er ∙ ap (query_fault q.rels) ep ∙ no_fault q ok)
  where
    some_is_not_none : (fault : QueryFault) → Some fault ≡ None → ⊥
    some_is_not_none fault e = cc

-- ---- the rows

row_of : (q : JoinQuery) (s : ℕ) → Within s (full (relations q)) → slice_index (table_of q).rows s ≡ rows q s
row_of q s w =
    let l : s < 2 ^ relations q = full_below s (relations q) w in
    let all : List ℕ = map (rows q) (range_with_len 0 (2 ^ relations q)) in
    sym (get_or_default_zero all s 0 (omega (arith, l, length-map-range_with_len (rows q) 0 (2 ^ relations q))))
    ∙ get_or-map-range_with_len (rows q) 0 (2 ^ relations q) s s 0 l (omega arith)

pub table_is : (q copy : JoinQuery) → copy ≡ q → IsCardTable q (table_of copy)
table_is q copy e = subst (λ c. IsCardTable q (table_of c)) (sym e) (record { sized = refl; each = λ s ne w. row_of q s w })

pub entry_is : (q : JoinQuery) (table : RowTable) (s r : ℕ) → table_of q ≡ table → Within s (full table.n) → r ≡ rows q s → r ≡ slice_index table.rows s
entry_is q table s r e w h =
    h ∙ sym (row_of q s (subst (λ (n : ℕ). Within s (full n)) (sym (ap (λ t. t.n) e)) w)) ∙ ap (λ t. slice_index t.rows s) e
