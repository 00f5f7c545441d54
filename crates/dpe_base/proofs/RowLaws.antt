-- The query with other rows of one relation.
use Rattle.std.proofs.Common.{◌≡◌, ℕ, zero, suc, ◌<◌, arith, List, [], ◌∷◌, length, get_or, set, ap}
use Rattle.dpe_base.specs.declared.query.Rel.{Rel}
use Rattle.dpe_base.specs.declared.query.Pred.{Pred}
use Rattle.dpe_base.specs.Queries.{JoinQuery, of_rows, rels_with_rows, with_rows}

-- the element at place r is written anew
rows_are_set : (xs : List Rel) (r rows : ℕ) (x : Rel) → r < length xs → x ≡ get_or xs r x → set xs r (of_rows rows x) ≡ rels_with_rows xs r rows
unfolding rels_with_rows
rows_are_set [] r rows x l is = absurd (omega (arith, l))
rows_are_set (y ∷ ys) zero rows x l is = ap (λ z. of_rows rows z ∷ ys) is
rows_are_set (y ∷ ys) (suc r) rows x l is = ap (λ zs. y ∷ zs) (rows_are_set ys r rows x (omega (arith, l)) is)

abbrev query_of : List Pred → List Rel → JoinQuery
query_of preds rels = record { rels = rels; preds = preds }

pub query_is_set : (rels : List Rel) (preds : List Pred) (r rows : ℕ) (x : Rel) → r < length rels → x ≡ get_or rels r x → query_of preds (set rels r (of_rows rows x)) ≡ with_rows (query_of preds rels) r rows
unfolding with_rows
query_is_set rels preds r rows x known is = ap (query_of preds) (rows_are_set rels r rows x known is)
