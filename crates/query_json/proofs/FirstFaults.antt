-- The first fault is the first place of the walk that breaks the format.
use Rattle.std.proofs.Common.{◌≡◌, ◌↔◌, ◌∙◌, ℕ, zero, suc, ◌+◌, ◌<◌, List, [], ◌∷◌, ◌++◌, Bool, true, false, not, cond, Option, Some, None, Result, Ok, Err, is_some, slice_get, refl, sym, ap, arith, nat_le, inl, inr}
use Rattle.std.specs.Prelude.{◌&&◌, ◌||◌, codes, length, map, nat_lt, option_and_then}
use Rattle.std.proofs.lemmas.Bool.{cases_Bool}
use Rattle.std.proofs.lemmas.Option.{same_Some}
use Rattle.serde_json.specs.Data.{Data, null, boolean, number, string, array, object, Items, no_items, item}
use Rattle.serde_json.specs.Find.{as_array, get}
use Rattle.dpe_base.specs.declared.TheConstants.{INPUT_CAP, PREDS_MAX}
use Rattle.query_json.specs.declared.TheConstants.{COLUMNS_MAX, QUERIES_MAX, TABLES_MAX}
use Rattle.query_json.specs.declared.fault.FileFault.{FileFault}
use Rattle.query_json.specs.declared.fault.FileFault.TheVariants.{NotJson, Shape, TooManyQueries, TooManyTables}
use Rattle.query_json.specs.declared.file.File.{File}
use Rattle.query_json.specs.declared.file.Version.{Version}
use Rattle.query_json.specs.declared.place.Place.{Place}
use Rattle.query_json.specs.declared.place.Site.TheVariants as site
use Rattle.query_json.specs.Answer.{◌>>=◌}
use Rattle.query_json.specs.Entries.{counted, entries_of, entries_of_value, entry_of, or_table_twice, table_names, tables_of}
use Rattle.query_json.specs.Walk.Places.{AllKeepFormat, IsFirstBroken, Visit, column_visits, is_object, is_there, items_in, join_visits, keeps_format, may_be, must_be, or_no_items, query_visits, relation_visits, table_visits, version_of, visit, visits, visits_of}
use Rattle.query_json.specs.Walk.{as_list, as_name, as_ratio, as_version, as_whole, column_at, columns_at, each, each_given, file_at, item_count, join_at, json_at, json_of, joins_at, object_at, optional, or_first, or_shape, place, present, query_at, relation_at, required, selectivity_at, table_at, where_present}

abbrev fault_of : {X : Type 0} → Result X FileFault → Option FileFault
fault_of (Ok x) = None
fault_of (Err e) = Some e

abbrev fault_in : Version → List Visit → Option FileFault
fault_in version [] = None
fault_in version (v ∷ vs) = cond (keeps_format version v) (fault_in version vs) (Some (Shape v.place))

-- ---- one place after another

step : {A B : Type 0} (fit : Bool) (p : Place) (r : Result A FileFault) (rest : A → Result B FileFault) (later : Option FileFault)
    → fault_of r ≡ cond fit None (Some (Shape p)) → ((x : A) → r ≡ Ok x → fault_of (rest x) ≡ later) → fault_of (r >>= rest) ≡ cond fit later (Some (Shape p))
step true p (Ok x) rest later e h = h x refl
step true p (Err y) rest later e h = absurd cc
step false p (Ok x) rest later e h = absurd cc
step false p (Err y) rest later e h = e

none_before : (fit : Bool) (p : Place) (rest : Option FileFault) → cond fit rest (Some (Shape p)) ≡ None → (fit ≡ true) × (rest ≡ None)
none_before true p rest e = (refl, e)
none_before false p rest e = absurd cc

after_none : (version : Version) (vs ws : List Visit) → None ≡ fault_in version vs → fault_in version ws ≡ fault_in version (vs ++ ws)
after_none version [] ws e = refl
after_none version (v ∷ vs) ws e =
    let h = none_before (keeps_format version v) v.place (fault_in version vs) (sym e) in
    rw h.0 (after_none version vs ws (sym h.1))

after_some : (version : Version) (vs ws : List Visit) (y : FileFault) → Some y ≡ fault_in version vs → Some y ≡ fault_in version (vs ++ ws)
after_some version [] ws y e = absurd cc
after_some version (v ∷ vs) ws y e = by_fit (keeps_format version v) v.place (fault_in version vs) (fault_in version (vs ++ ws)) (after_some version vs ws y) e
  where
    by_fit : (fit : Bool) (p : Place) (rest more : Option FileFault) → (Some y ≡ rest → Some y ≡ more) → Some y ≡ cond fit rest (Some (Shape p)) → Some y ≡ cond fit more (Some (Shape p))
    by_fit true p rest more h e = h e
    by_fit false p rest more h e = e

-- a list of places, and what comes after it
part : (version : Version) {A B : Type 0} (r : Result A FileFault) (rest : A → Result B FileFault) (vs ws : List Visit) → fault_of r ≡ fault_in version vs → ((x : A) → r ≡ Ok x → fault_of (rest x) ≡ fault_in version ws) → fault_of (r >>= rest) ≡ fault_in version (vs ++ ws)
part version (Ok x) rest vs ws e h = h x refl ∙ after_none version vs ws e
part version (Err y) rest vs ws e h = after_some version vs ws y e

last : {A B : Type 0} (r : Result A FileFault) (f : A → B) → fault_of (r >>= λ x. Ok (f x)) ≡ fault_of r
last (Ok x) f = refl
last (Err e) f = refl

each_fault : (version : Version) {X : Type 0} (f : ℕ → Data → Result X FileFault) (g : ℕ → Data → List Visit) → ((at : ℕ) (d : Data) → fault_of (f at d) ≡ fault_in version (g at d)) → (at : ℕ) (ds : Items) → fault_of (each f at ds) ≡ fault_in version (visits_of g at ds)
each_fault version f g h at no_items = refl
each_fault version f g h at (item d ds) =
    part version (f at d) (λ x. each f (at + 1) ds >>= λ xs. Ok (x ∷ xs)) (g at d) (visits_of g (at + 1) ds) (h at d)
    (λ x e. last (each f (at + 1) ds) (λ xs. x ∷ xs) ∙ each_fault version f g h (at + 1) ds)

-- ---- one place

object_fault : (p : Place) (d : Data) → fault_of (object_at p d) ≡ cond (is_object d) None (Some (Shape p))
object_fault p d = by_fit (is_object d)
  where
    by_fit : (fit : Bool) → fault_of {X = Unit {0}} (cond fit (Ok tt) (Err (Shape p))) ≡ cond fit None (Some (Shape p))
    by_fit true = refl
    by_fit false = refl

shape_fault : {X : Type 0} (p : Place) (o : Option X) → fault_of (or_shape p o) ≡ cond (is_some o) None (Some (Shape p))
shape_fault p None = refl
shape_fault p (Some x) = refl

required_fault : {X : Type 0} (f : Data → Option X) (p : Place) (m : Option Data) → fault_of (required f p m) ≡ cond (must_be f m) None (Some (Shape p))
required_fault f p m = shape_fault p (option_and_then f m)

where_fault : {X : Type 0} (f : Data → Option X) (p : Place) (m : Option Data) → fault_of (where_present f p m) ≡ cond (not (is_some m) || is_some (option_and_then f m)) None (Some (Shape p))
where_fault f p None = refl
where_fault f p (Some d) = last (or_shape p (f d)) Some ∙ shape_fault p (f d)

optional_fault : {X : Type 0} (f : Data → Option X) (p : Place) (m : Option Data) → fault_of (optional f p m) ≡ cond (may_be f m) None (Some (Shape p))
optional_fault f p m = where_fault f p (present m)

ratio_fault : {X : Type 0} (p : Place) (columns : Bool) (o : Option X)
    → fault_of ((or_shape p o >>= λ x. Ok (Some x)) >>= λ found. cond (columns || is_some found) (Ok found) (Err (Shape p))) ≡ cond (is_some o && (columns || true)) None (Some (Shape p))
ratio_fault p columns None = refl
ratio_fault p true (Some x) = refl
ratio_fault p false (Some x) = refl

given_fault : {X : Type 0} (f : Data → Option X) (p : Place) (columns : Bool) (m : Option Data)
    → fault_of (where_present f p m >>= λ found. cond (columns || is_some found) (Ok found) (Err (Shape p)))
    ≡ cond ((not (is_some m) || is_some (option_and_then f m)) && (columns || is_some m)) None (Some (Shape p))
given_fault f p true None = refl
given_fault f p false None = refl
given_fault f p columns (Some d) = ratio_fault p columns (f d)

selectivity_fault : (version : Version) (p : Place) (columns : Bool) (m : Option Data) → fault_of (selectivity_at version p columns m) ≡ cond (may_be (as_ratio version) m && (columns || is_there m)) None (Some (Shape p))
unfolding selectivity_at
selectivity_fault version p columns m = given_fault (as_ratio version) p columns (present m)

where_some : {X : Type 0} (f : Data → Option X) (p : Place) (m : Option Data) (x : Option X) → where_present f p m ≡ Ok x → is_some m ≡ is_some x
where_some {X} f p None x e = let h : None ≡ x = cc in ap is_some h
where_some {X} f p (Some d) x e = by_value (f d) e
  where
    by_value : (o : Option X) → (or_shape p o >>= λ y. Ok (Some y)) ≡ Ok x → true ≡ is_some x
    by_value None e = absurd cc
    by_value (Some y) e = let h : Some y ≡ x = cc in ap is_some h

-- ---- the items of a member

required_items : (p : Place) (m : Option Data) (ds : Items) → required as_array p m ≡ Ok ds → items_in m ≡ ds
required_items p m ds e = by_array (option_and_then as_array m) e
  where
    by_array : (o : Option Items) → or_shape p o ≡ Ok ds → or_no_items o ≡ ds
    by_array None e = absurd cc
    by_array (Some x) e = cc

optional_items : {X : Type 0} (f : ℕ → Data → Result X FileFault) (limit : ℕ) (p : Place) (m : Option Data) (o : Option Items) → optional (as_list limit) p m ≡ Ok o → each_given f o ≡ each f 0 (items_in m)
optional_items f limit p None o e = let h : None ≡ o = cc in ap (each_given f) (sym h)
optional_items f limit p (Some null) o e = let h : None ≡ o = cc in ap (each_given f) (sym h)
optional_items f limit p (Some (boolean b)) o e = absurd cc
optional_items f limit p (Some (number n)) o e = absurd cc
optional_items f limit p (Some (string s)) o e = absurd cc
optional_items f limit p (Some (object ms)) o e = absurd cc
optional_items f limit p (Some (array ds)) o e = ap (each_given f) (by_size (nat_le (item_count ds) limit) e)
  where
    by_size : (b : Bool) → (or_shape p (cond b (Some ds) None) >>= λ x. Ok (Some x)) ≡ Ok o → o ≡ Some ds
    by_size true e = let h : Some ds ≡ o = cc in sym h
    by_size false e = absurd cc

-- ---- the parts of a file

column_fault : (version : Version) (i j : ℕ) (d : Data) → fault_of (column_at i j d) ≡ fault_in version (column_visits i j d)
unfolding column_at
column_fault version i j d =
    step (is_object d) (place site.Column i j) _ _ _ (object_fault (place site.Column i j) d) (λ fields a.
    step (must_be as_name (get (codes "name") d)) (place site.ColumnName i j) _ _ _ (required_fault as_name (place site.ColumnName i j) (get (codes "name") d)) (λ name b.
    step (must_be (as_whole INPUT_CAP) (get (codes "distinct") d)) (place site.Distinct i j) _ _ _ (required_fault (as_whole INPUT_CAP) (place site.Distinct i j) (get (codes "distinct") d)) (λ distinct c. refl)))

columns_fault : (version : Version) (i : ℕ) (d : Data) → fault_of (columns_at i (get (codes "columns") d)) ≡ fault_in version (visit site.Columns i 0 d ∷ visits_of (column_visits i) 0 (items_in (get (codes "columns") d)))
unfolding columns_at
columns_fault version i d =
    step (may_be (as_list COLUMNS_MAX) (get (codes "columns") d)) (place site.Columns i 0) _ _ _ (optional_fault (as_list COLUMNS_MAX) (place site.Columns i 0) (get (codes "columns") d)) (λ found a.
    ap fault_of (optional_items (column_at i) COLUMNS_MAX (place site.Columns i 0) (get (codes "columns") d) found a)
    ∙ each_fault version (column_at i) (column_visits i) (column_fault version i) 0 (items_in (get (codes "columns") d)))

table_fault : (version : Version) (i : ℕ) (d : Data) → fault_of (table_at 0 i d) ≡ fault_in version (table_visits i d)
unfolding table_at
table_fault version i d =
    step (is_object d) (place site.Table i 0) _ _ _ (object_fault (place site.Table i 0) d) (λ fields a.
    step (must_be as_name (get (codes "name") d)) (place site.TableName i 0) _ _ _ (required_fault as_name (place site.TableName i 0) (get (codes "name") d)) (λ name b.
    step (must_be (as_whole INPUT_CAP) (get (codes "rows") d)) (place site.TableRows i 0) _ _ _ (required_fault (as_whole INPUT_CAP) (place site.TableRows i 0) (get (codes "rows") d)) (λ rows c.
    last (columns_at i (get (codes "columns") d)) (λ columns. record { name = name; rows = rows; columns = columns })
    ∙ columns_fault version i d)))

relation_fault : (version : Version) (i j : ℕ) (d : Data) → fault_of (relation_at version i j d) ≡ fault_in version (relation_visits i j d)
unfolding relation_at
relation_fault version i j d =
    step (is_object d) (place site.Relation i j) _ _ _ (object_fault (place site.Relation i j) d) (λ fields a.
    step (must_be as_name (get (codes "alias") d)) (place site.Alias i j) _ _ _ (required_fault as_name (place site.Alias i j) (get (codes "alias") d)) (λ alias b.
    step (must_be as_name (get (codes "table") d)) (place site.TableRef i j) _ _ _ (required_fault as_name (place site.TableRef i j) (get (codes "table") d)) (λ table c.
    step (may_be (as_ratio version) (get (codes "filter") d)) (place site.Filter i j) _ _ _ (optional_fault (as_ratio version) (place site.Filter i j) (get (codes "filter") d)) (λ filter e. refl))))

join_fault : (version : Version) (i j : ℕ) (d : Data) → fault_of (join_at version i j d) ≡ fault_in version (join_visits i j d)
unfolding join_at
join_fault version i j d =
    let left_there : (x : Option (List ℕ)) → optional as_name (place site.LeftColumn i j) (get (codes "left_column") d) ≡ Ok x → is_there (get (codes "left_column") d) ≡ is_some x =
    λ x e. where_some as_name (place site.LeftColumn i j) (present (get (codes "left_column") d)) x e in
    let right_there : (x : Option (List ℕ)) → optional as_name (place site.RightColumn i j) (get (codes "right_column") d) ≡ Ok x → is_there (get (codes "right_column") d) ≡ is_some x =
    λ x e. where_some as_name (place site.RightColumn i j) (present (get (codes "right_column") d)) x e in
    step (is_object d) (place site.JoinItem i j) _ _ _ (object_fault (place site.JoinItem i j) d) (λ fields a.
    step (must_be as_name (get (codes "left") d)) (place site.Left i j) _ _ _ (required_fault as_name (place site.Left i j) (get (codes "left") d)) (λ left b.
    step (must_be as_name (get (codes "right") d)) (place site.Right i j) _ _ _ (required_fault as_name (place site.Right i j) (get (codes "right") d)) (λ right c.
    step (may_be as_name (get (codes "left_column") d)) (place site.LeftColumn i j) _ _ _ (optional_fault as_name (place site.LeftColumn i j) (get (codes "left_column") d)) (λ left_column e.
    step (may_be as_name (get (codes "right_column") d)) (place site.RightColumn i j) _ _ _ (optional_fault as_name (place site.RightColumn i j) (get (codes "right_column") d)) (λ right_column f.
    last (selectivity_at version (place site.Selectivity i j) (is_some left_column && is_some right_column) (get (codes "selectivity") d))
    (λ selectivity. record { left = left; right = right; left_column = left_column; right_column = right_column; selectivity = selectivity })
    ∙ selectivity_fault version (place site.Selectivity i j) (is_some left_column && is_some right_column) (get (codes "selectivity") d)
    ∙ rw (left_there left_column e, right_there right_column f) refl)))))

joins_fault : (version : Version) (i : ℕ) (d : Data) → fault_of (joins_at version i (get (codes "joins") d)) ≡ fault_in version (visit site.Joins i 0 d ∷ visits_of (join_visits i) 0 (items_in (get (codes "joins") d)))
unfolding joins_at
joins_fault version i d =
    step (may_be (as_list PREDS_MAX) (get (codes "joins") d)) (place site.Joins i 0) _ _ _ (optional_fault (as_list PREDS_MAX) (place site.Joins i 0) (get (codes "joins") d)) (λ found a.
    ap fault_of (optional_items (join_at version i) PREDS_MAX (place site.Joins i 0) (get (codes "joins") d) found a)
    ∙ each_fault version (join_at version i) (join_visits i) (join_fault version i) 0 (items_in (get (codes "joins") d)))

query_fault : (version : Version) (i : ℕ) (d : Data) → fault_of (query_at version 0 i d) ≡ fault_in version (query_visits i d)
unfolding query_at
query_fault version i d =
    step (is_object d) (place site.QueryItem i 0) _ _ _ (object_fault (place site.QueryItem i 0) d) (λ fields a.
    step (must_be as_name (get (codes "name") d)) (place site.QueryName i 0) _ _ _ (required_fault as_name (place site.QueryName i 0) (get (codes "name") d)) (λ name b.
    step (must_be as_array (get (codes "relations") d)) (place site.Relations i 0) _ _ _ (required_fault as_array (place site.Relations i 0) (get (codes "relations") d)) (λ list c.
    part version (each (relation_at version i) 0 list) _ (visits_of (relation_visits i) 0 (items_in (get (codes "relations") d))) _
    (rw (required_items (place site.Relations i 0) (get (codes "relations") d) list c) (each_fault version (relation_at version i) (relation_visits i) (relation_fault version i) 0 list))
    (λ relations e.
    last (joins_at version i (get (codes "joins") d)) (λ joins. record { name = name; relations = relations; joins = joins })
    ∙ joins_fault version i d))))

version_said : (o : Option Data) (version : Version) → (where_present as_version (place site.Version 0 0) o >>= λ named. Ok (or_first named)) ≡ Ok version
    → or_first (option_and_then as_version o) ≡ version
version_said None version e = cc
version_said (Some d) version e = by_value (as_version d) e
  where
    by_value : (v : Option Version) → ((or_shape (place site.Version 0 0) v >>= λ x. Ok (Some x)) >>= λ named. Ok (or_first named)) ≡ Ok version → or_first v ≡ version
    by_value None e = absurd cc
    by_value (Some x) e = cc

queries_fault : (read version : Version) (d : Data) (list : Items) → version ≡ read → required as_array (place site.Queries 0 0) (get (codes "queries") d) ≡ Ok list
    → fault_of (each (query_at read 0) 0 list) ≡ fault_in version (visits_of query_visits 0 (items_in (get (codes "queries") d)))
queries_fault read version d list same e =
    rw (← same, required_items (place site.Queries 0 0) (get (codes "queries") d) list e) (each_fault version (query_at version 0) query_visits (query_fault version) 0 list)

file_fault : (d : Data) → fault_of (file_at d) ≡ fault_in (version_of d) (visits d)
unfolding file_at
file_fault d =
    step (is_object d) (place site.Root 0 0) _ _ _ (object_fault (place site.Root 0 0) d) (λ fields a.
    step (may_be as_version (get (codes "version") d)) (place site.Version 0 0) _ _ _
    (last (optional as_version (place site.Version 0 0) (get (codes "version") d)) or_first ∙ optional_fault as_version (place site.Version 0 0) (get (codes "version") d)) (λ version b.
    step (must_be as_array (get (codes "tables") d)) (place site.Tables 0 0) _ _ _ (required_fault as_array (place site.Tables 0 0) (get (codes "tables") d)) (λ table_list c.
    part (version_of d) (each (table_at 0) 0 table_list) _ (visits_of table_visits 0 (items_in (get (codes "tables") d))) _
    (rw (required_items (place site.Tables 0 0) (get (codes "tables") d) table_list c) (each_fault (version_of d) (table_at 0) table_visits (table_fault (version_of d)) 0 table_list))
    (λ tables e.
    step (must_be as_array (get (codes "queries") d)) (place site.Queries 0 0) _ _ _ (required_fault as_array (place site.Queries 0 0) (get (codes "queries") d)) (λ query_list f.
    last (each (query_at version 0) 0 query_list) (λ queries. record { tables = tables; queries = queries })
    ∙ queries_fault version (version_of d) d query_list (version_said (present (get (codes "version") d)) version b) f)))))

-- ---- the first in a list

none_at : {A : Type 0} (k : ℕ) (x : A) → slice_get {X = A} [] k ≡ Some x → ⊥
none_at zero x e = cc
none_at (suc k) x e = cc

some_before : (fit : Bool) (p q : Place) (rest : Option FileFault) → cond fit rest (Some (Shape p)) ≡ Some (Shape q) → fit ≡ false → p ≡ q
some_before true p q rest e f = absurd cc
some_before false p q rest e f = cc

in_front : (version : Version) (v : Visit) (vs : List Visit) (p : Place) (k : ℕ) → keeps_format version v ≡ true → IsFirstBroken version vs p k → IsFirstBroken version (v ∷ vs) p (suc k)
in_front version v vs p k fit rest = record { here = (rest.here.0, rest.here.1, rest.here.2, rest.here.3); first = before }
  where
    before : (i : ℕ) (w : Visit) → i < suc k → slice_get (v ∷ vs) i ≡ Some w → keeps_format version w ≡ true
    before zero w lt is = ap (keeps_format version) (sym (same_Some v w is)) ∙ fit
    before (suc i) w lt is = rest.first i w (omega (arith, lt)) is

found_first : (version : Version) (vs : List Visit) (p : Place) → fault_in version vs ≡ Some (Shape p) → (k : ℕ) × IsFirstBroken version vs p k
found_first version [] p e = absurd cc
found_first version (v ∷ vs) p e =
    elim (cases_Bool (keeps_format version v)) [
      | inl fit ↦ let h = found_first version vs p (rw fit at e) in (suc h.0, in_front version v vs p h.0 fit h.1)
      | inr broken ↦ (
        0,
        record {
          here = (v, refl, some_before (keeps_format version v) v.place p (fault_in version vs) e broken, broken);
          first = λ i w lt. absurd (omega (arith, lt));
        },
      )
    ]

behind : (version : Version) (v : Visit) (vs : List Visit) (p : Place) (k : ℕ) → IsFirstBroken version (v ∷ vs) p (suc k) → IsFirstBroken version vs p k
behind version v vs p k h = record { here = (h.here.0, h.here.1, h.here.2, h.here.3); first = λ i w lt is. h.first (suc i) w (omega (arith, lt)) is }

broken_first : (version : Version) (v w : Visit) (vs : List Visit) (p : Place) → v ≡ w → w.place ≡ p → keeps_format version w ≡ false → cond (keeps_format version v) (fault_in version vs) (Some (Shape v.place)) ≡ Some (Shape p)
broken_first version v w vs p same at broken = rw (same, broken, at) refl

first_found : (version : Version) (vs : List Visit) (p : Place) (k : ℕ) → IsFirstBroken version vs p k → fault_in version vs ≡ Some (Shape p)
first_found version [] p k h = absurd (none_at k h.here.0 h.here.1)
first_found version (v ∷ vs) p zero h = broken_first version v h.here.0 vs p (same_Some v h.here.0 h.here.1) h.here.2 h.here.3
first_found version (v ∷ vs) p (suc k) h = rw (h.first 0 v (omega arith) refl) (first_found version vs p k (behind version v vs p k h))

all_fit : (version : Version) (vs : List Visit) → fault_in version vs ≡ None → AllKeepFormat version vs
all_fit version [] e i w is = absurd (none_at i w is)
all_fit version (v ∷ vs) e zero w is = ap (keeps_format version) (sym (same_Some v w is)) ∙ (none_before (keeps_format version v) v.place (fault_in version vs) e).0
all_fit version (v ∷ vs) e (suc i) w is = all_fit version vs (none_before (keeps_format version v) v.place (fault_in version vs) e).1 i w is

fit_all : (version : Version) (vs : List Visit) → AllKeepFormat version vs → fault_in version vs ≡ None
fit_all version [] h = refl
fit_all version (v ∷ vs) h = rw (h 0 v refl) (fit_all version vs (λ i w is. h (suc i) w is))

-- ---- the file

faulty : {X : Type 0} (r : Result X FileFault) (e : FileFault) → fault_of r ≡ Some e → r ≡ Err e
faulty (Ok x) e h = absurd cc
faulty (Err y) e h = let same : y ≡ e = cc in ap Err same

faultless : {X : Type 0} (r : Result X FileFault) → fault_of r ≡ None → (x : X) × (r ≡ Ok x)
faultless (Ok x) h = (x, refl)
faultless (Err y) h = absurd cc

first_shape : (d : Data) (p : Place) → (file_at d ≡ Err (Shape p)) ↔ ((k : ℕ) × IsFirstBroken (version_of d) (visits d) p k)
first_shape d p = (
  λ h. found_first (version_of d) (visits d) p (sym (file_fault d) ∙ ap fault_of h),
  λ h. faulty (file_at d) (Shape p) (file_fault d ∙ first_found (version_of d) (visits d) p h.0 h.1),
)

whole_file : (d : Data) → ((f : File) × (file_at d ≡ Ok f)) ↔ AllKeepFormat (version_of d) (visits d)
whole_file d = (
  λ h. all_fit (version_of d) (visits d) (sym (file_fault d) ∙ ap fault_of h.1),
  λ h. faultless (file_at d) (file_fault d ∙ fit_all (version_of d) (visits d) h),
)

count_no_shape : (tables queries : Bool) (p : Place) → ◌≡◌ {A = Result (Unit {0}) FileFault} (cond tables (Err TooManyTables) (cond queries (Err TooManyQueries) (Ok tt))) (Err (Shape p)) → ⊥
count_no_shape true queries p e = cc
count_no_shape false true p e = cc
count_no_shape false false p e = cc

names_no_shape : (r : Result (List (List ℕ)) (List ℕ)) (p : Place) → or_table_twice r ≡ Err (Shape p) → ⊥
names_no_shape (Ok names) p e = cc
names_no_shape (Err name) p e = cc

-- what comes after the walk finds no place at fault
bind_shape : {A B : Type 0} (r : Result A FileFault) (rest : A → Result B FileFault) (p : Place) → ((x : A) → rest x ≡ Err (Shape p) → ⊥) → (r >>= rest) ≡ Err (Shape p) → r ≡ Err (Shape p)
bind_shape (Ok x) rest p none e = absurd (none x e)
bind_shape (Err y) rest p none e = let same : y ≡ Shape p = cc in ap Err same

bind_none : {A B : Type 0} (r : Result A FileFault) (rest : A → Result B FileFault) (p : Place) → ((x : A) → rest x ≡ Err (Shape p) → ⊥) → (r ≡ Err (Shape p) → ⊥) → (r >>= rest) ≡ Err (Shape p) → ⊥
bind_none r rest p none not_r e = not_r (bind_shape r rest p none e)

no_shape_later : (f : File) (p : Place) → (counted f >>= λ size. tables_of f.tables >>= λ tables. Ok (map (entry_of tables) f.queries)) ≡ Err (Shape p) → ⊥
no_shape_later f p e =
    bind_none (counted f) _ p
    (λ size. bind_none (tables_of f.tables) _ p (λ tables h. cc) (bind_none (table_names f.tables) _ p (λ names h. cc) (names_no_shape _ p)))
    (count_no_shape (nat_lt TABLES_MAX (length f.tables)) (nat_lt QUERIES_MAX (length f.queries)) p) e

entries_shape : (d : Data) (p : Place) → (entries_of_value d ≡ Err (Shape p)) ↔ (file_at d ≡ Err (Shape p))
unfolding entries_of_value
entries_shape d p = (λ e. bind_shape (file_at d) _ p (λ f h. no_shape_later f p h) e, λ e. rw e refl)

pub first_fault : (d : Data) → ((p : Place) → (entries_of_value d ≡ Err (Shape p)) ↔ ((k : ℕ) × IsFirstBroken (version_of d) (visits d) p k))
    × (((f : File) × (file_at d ≡ Ok f)) ↔ AllKeepFormat (version_of d) (visits d))
first_fault d = (
  λ p.
      let both = first_shape d p in
      let same = entries_shape d p in
      (λ h. both.0 (same.0 h), λ h. same.1 (both.1 h)),
  whole_file d,
)

pub texts_hold : (bytes : List ℕ) → ((d : Data) → json_of bytes ≡ Some d → entries_of bytes ≡ entries_of_value d) × (json_of bytes ≡ None → entries_of bytes ≡ Err NotJson)
unfolding entries_of json_at
texts_hold bytes = (λ d e. rw e refl, λ e. rw e refl)
