-- Names of which none stands twice are the labels of their list.
use Rattle.std.proofs.Common.{◌≡◌, ◌∙◌, ℕ, List, [], ◌∷◌, ◌++◌, map, Result, Ok, Err, sym, ap, append_assoc, append-nil, inl, inr}
use Rattle.std.specs.List.{list_any}
use Rattle.std.specs.Str.{bytes_eq}
use Rattle.std.proofs.lemmas.Bool.{cases_Bool}
use Rattle.query_json.specs.declared.file.Table.{Table}
use Rattle.query_json.specs.Names.{distinct_after, distinct_names}
use Rattle.query_json.specs.Entries.{table_names}
use Rattle.query_json.specs.Entries.{or_table_twice}

after_labels : {T : Type 0} (label : T → List ℕ) (met names : List (List ℕ)) (ts : List T) → distinct_after label met ts ≡ Ok names → names ≡ met ++ map label ts
after_labels label met names [] e = let same : met ≡ names = cc in sym same ∙ sym (append-nil met)
after_labels label met names (t ∷ ts) e =
    elim (cases_Bool (list_any (bytes_eq (label t)) met)) [
      | inl old ↦ absurd (err_ok (rw old at e))
      | inr new ↦ after_labels label (met ++ label t ∷ []) names ts (rw new at e) ∙ append_assoc met (label t ∷ []) (map label ts)
    ]
  where
    err_ok : Err (label t) ≡ Ok names → ⊥
    err_ok h = cc

pub distinct_labels : {T : Type 0} (label : T → List ℕ) (names : List (List ℕ)) (ts : List T) → distinct_names label ts ≡ Ok names → names ≡ map label ts
distinct_labels label names ts e = after_labels label [] names ts e

not_table : (r : Result (List (List ℕ)) (List ℕ)) (names : List (List ℕ)) → or_table_twice r ≡ Ok names → r ≡ Ok names
not_table (Ok x) names e = let same : x ≡ names = cc in ap Ok same
not_table (Err x) names e = absurd cc

pub table_names_are : (ts : List Table) (names : List (List ℕ)) → table_names ts ≡ Ok names → names ≡ map (λ t. t.name) ts
table_names_are ts names e = distinct_labels (λ t. t.name) names ts (not_table (distinct_names (λ t. t.name) ts) names e)
