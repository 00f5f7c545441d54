-- The first name that stands twice, by its place.
use Rattle.std.proofs.Common.{◌≡◌, ◌↔◌, ◌∙◌, ℕ, suc, zero, ◌<◌, List, [], ◌∷◌, ◌++◌, true, false, map, take, Result, Ok, Err, Some, slice_get, refl, sym, ap, arith, append_assoc, append-nil, inl, inr}
use Rattle.std.proofs.lemmas.Bool.{cases_Bool}
use Rattle.std.proofs.lemmas.Option.{same_Some}
use Rattle.query_json.specs.declared.file.RelationItem.{RelationItem}
use Rattle.query_json.specs.declared.file.Table.{Table}
use Rattle.query_json.specs.declared.fault.FileFault.TheVariants.{DuplicateTable}
use Rattle.query_json.specs.declared.refusal.QueryRefusal.TheVariants.{DuplicateAlias}
use Rattle.query_json.specs.Entries.{or_table_twice, table_names}
use Rattle.query_json.specs.Queries.Causes.{IsFirstRepeat, is_among}
use Rattle.query_json.specs.Names.{distinct_after, distinct_names}
use Rattle.query_json.specs.Queries.{aliases_of, or_alias_twice}

-- the same after the names that were met
record IsFirstAfter (met names : List (List ℕ)) (name : List ℕ) (k : ℕ) : Type 0 where
  pub here : slice_get names k ≡ Some name
  pub again : is_among name (met ++ take k names) ≡ true
  pub first : (i : ℕ) (n : List ℕ) → i < k → slice_get names i ≡ Some n → is_among n (met ++ take i names) ≡ false

err_same : {X Y : Type 0} (x y : Y) → ◌≡◌ {A = Result X Y} (Err x) (Err y) → x ≡ y
err_same x y e = cc

moved : (name x : List ℕ) (met rest : List (List ℕ)) → is_among name ((met ++ x ∷ []) ++ rest) ≡ is_among name (met ++ x ∷ rest)
moved name x met rest = ap (is_among name) (append_assoc met (x ∷ []) rest)

at_end : (name : List ℕ) (met : List (List ℕ)) → is_among name (met ++ []) ≡ is_among name met
at_end name met = ap (is_among name) (append-nil met)

found : {T : Type 0} (label : T → List ℕ) (met : List (List ℕ)) (ts : List T) (name : List ℕ) → distinct_after label met ts ≡ Err name → (k : ℕ) × IsFirstAfter met (map label ts) name k
found label met [] name e = absurd cc
found label met (t ∷ ts) name e =
    elim (cases_Bool (is_among (label t) met)) [
      | inl old ↦
          let same : label t ≡ name = err_same (label t) name (rw old at e) in (
            0,
            record {
              here = ap Some same;
              again = at_end name met ∙ ap (λ n. is_among n met) (sym same) ∙ old;
              first = λ i n lt. absurd (omega (arith, lt));
            },
          )
      | inr new ↦
          let rest = found label (met ++ label t ∷ []) ts name (rw new at e) in (
            suc rest.0,
            record {
              here = rest.1.here;
              again = sym (moved name (label t) met (take rest.0 (map label ts))) ∙ rest.1.again;
              first = λ i n lt is. before label met t ts name rest.0 new rest.1 i n lt is;
            },
          )
    ]
  where
    before : {T : Type 0} (label : T → List ℕ) (met : List (List ℕ)) (t : T) (ts : List T) (name : List ℕ) (k : ℕ) → is_among (label t) met ≡ false → IsFirstAfter (met ++ label t ∷ []) (map label ts) name k
        → (i : ℕ) (n : List ℕ) → i < suc k → slice_get (map label (t ∷ ts)) i ≡ Some n → is_among n (met ++ take i (map label (t ∷ ts))) ≡ false
    before label met t ts name k new rest zero n lt is = at_end n met ∙ ap (λ x. is_among x met) (sym (same_Some (label t) n is)) ∙ new
    before label met t ts name k new rest (suc i) n lt is = sym (moved n (label t) met (take i (map label ts))) ∙ rest.first i n (omega (arith, lt)) is

said : {T : Type 0} (label : T → List ℕ) (met : List (List ℕ)) (ts : List T) (name : List ℕ) (k : ℕ) → IsFirstAfter met (map label ts) name k → distinct_after label met ts ≡ Err name
said label met [] name k h = absurd (none_here k h.here)
  where
    none_here : (k : ℕ) → slice_get {X = List ℕ} [] k ≡ Some name → ⊥
    none_here zero e = cc
    none_here (suc k) e = cc
said label met (t ∷ ts) name zero h =
    let same : label t ≡ name = same_Some (label t) name h.here in
    let old : is_among (label t) met ≡ true = ap (λ n. is_among n met) same ∙ sym (at_end name met) ∙ h.again in
    rw old (ap Err same)
said label met (t ∷ ts) name (suc k) h =
    let new : is_among (label t) met ≡ false = sym (at_end (label t) met) ∙ h.first 0 (label t) (omega arith) refl in
    rw new
    (said label (met ++ label t ∷ []) ts name k
    (record {
      here = h.here;
      again = moved name (label t) met (take k (map label ts)) ∙ h.again;
      first = λ i n lt is. moved n (label t) met (take i (map label ts)) ∙ h.first (suc i) n (omega (arith, lt)) is;
    }))

by_place : {T : Type 0} (label : T → List ℕ) (ts : List T) (name : List ℕ) → (distinct_names label ts ≡ Err name) ↔ ((k : ℕ) × IsFirstRepeat (map label ts) name k)
by_place label ts name = (
  λ e. let f = found label [] ts name e in (f.0, record { here = f.1.here; again = f.1.again; first = f.1.first }),
  λ f. said label [] ts name f.0 (record { here = f.1.here; again = f.1.again; first = f.1.first }),
)

table_twice : (r : Result (List (List ℕ)) (List ℕ)) (name : List ℕ) → or_table_twice r ≡ Err (DuplicateTable name) → r ≡ Err name
table_twice (Ok x) name e = absurd cc
table_twice (Err x) name e = let same : x ≡ name = cc in ap Err same

alias_twice : (r : Result (List (List ℕ)) (List ℕ)) (name : List ℕ) → or_alias_twice r ≡ Err (DuplicateAlias name) → r ≡ Err name
alias_twice (Ok x) name e = absurd cc
alias_twice (Err x) name e = let same : x ≡ name = cc in ap Err same

pub tables_by_place : (tables : List Table) (name : List ℕ) → (table_names tables ≡ Err (DuplicateTable name)) ↔ ((k : ℕ) × IsFirstRepeat (map (λ t. t.name) tables) name k)
tables_by_place tables name =
    let both = by_place (λ t. t.name) tables name in
    (λ e. both.0 (table_twice (distinct_names (λ t. t.name) tables) name e), λ f. ap or_table_twice (both.1 f))

pub aliases_by_place : (relations : List RelationItem) (name : List ℕ) → (aliases_of relations ≡ Err (DuplicateAlias name)) ↔ ((k : ℕ) × IsFirstRepeat (map (λ r. r.alias) relations) name k)
aliases_by_place relations name =
    let both = by_place (λ r. r.alias) relations name in
    (λ e. both.0 (alias_twice (distinct_names (λ r. r.alias) relations) name e), λ f. ap or_alias_twice (both.1 f))
