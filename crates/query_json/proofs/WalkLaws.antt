-- What the walk makes sure of.
use Rattle.std.proofs.Common.{◌≡◌, ◌+◌, ◌≤◌, ℕ, List, [], ◌∷◌, length, All, Result, Ok, Err, Option, Some, None, IfOk, nat_le, arith, sym, ap, subst}
use Rattle.std.specs.Prelude.{codes, option_and_then}
use Rattle.std.proofs.lemmas.Bool.{leb-true}
use Rattle.std.proofs.lemmas.List.Elements.{All-cons, All-nil}
use Rattle.std.proofs.lemmas.Option.{same_Some}
use Rattle.serde_json.specs.Data.{Data, Items, no_items, item}
use Rattle.serde_json.specs.Find.{as_array, as_number, as_u64, get}
use Rattle.dpe_base.specs.declared.TheConstants.{INPUT_CAP, PREDS_MAX}
use Rattle.query_json.specs.declared.TheConstants.{COLUMNS_MAX}
use Rattle.query_json.specs.declared.file.Column.{Column}
use Rattle.query_json.specs.declared.file.Table.{Table}
use Rattle.query_json.specs.declared.file.JoinItem.{JoinItem}
use Rattle.query_json.specs.declared.file.QueryItem.{QueryItem}
use Rattle.query_json.specs.declared.file.File.{File}
use Rattle.query_json.specs.declared.file.Version.{Version}
use Rattle.query_json.specs.declared.fault.FileFault.{FileFault}
use Rattle.query_json.specs.declared.place.Site.TheVariants as site
use Rattle.query_json.specs.declared.place.Place.{Place}
use Rattle.query_json.specs.Answer.{Gives}
use Rattle.query_json.specs.Walk.Limits.{IsColumnWithin, IsTableWithin, IsQueryWithin, IsFileWithin}
use Rattle.query_json.specs.Walk.{as_list, as_name, as_whole, column_at, columns_at, each, each_given, file_at, item_count, join_at, joins_at, object_at, optional, or_shape, place, present, query_at, relation_at, required, table_at, version_at, where_present}
use Rattle.query_json.proofs.Binds.{bind_ok, ok_same, kept}

each_all : {X : Type 0} (P : X → Type 0) (f : ℕ → Data → Result X FileFault) → ((at : ℕ) (d : Data) (x : X) → f at d ≡ Ok x → P x) → (at : ℕ) (ds : Items) (xs : List X) → each f at ds ≡ Ok xs → All P xs
each_all P f h at no_items xs e = subst (All P) (ok_same [] xs e) (All-nil P)
each_all P f h at (item d ds) xs e =
    let a = bind_ok (f at d) _ xs e in
    let b = bind_ok (each f (at + 1) ds) _ xs a.2 in
    let whole : a.0 ∷ b.0 ≡ xs = ok_same (a.0 ∷ b.0) xs b.2 in
    subst (All P) whole (All-cons P a.0 b.0 (h at d a.0 a.1) (each_all P f h (at + 1) ds b.0 b.1))

each_length : {X : Type 0} (f : ℕ → Data → Result X FileFault) (at : ℕ) (ds : Items) (xs : List X) → each f at ds ≡ Ok xs → length xs ≡ item_count ds
each_length f at no_items xs e = ap length (sym (ok_same [] xs e))
each_length f at (item d ds) xs e =
    let a = bind_ok (f at d) _ xs e in
    let b = bind_ok (each f (at + 1) ds) _ xs a.2 in
    let whole : a.0 ∷ b.0 ≡ xs = ok_same (a.0 ∷ b.0) xs b.2 in
    omega (arith, ap length (sym whole), each_length f (at + 1) ds b.0 b.1)

shape_some : {X : Type 0} (p : Place) (o : Option X) (x : X) → or_shape p o ≡ Ok x → o ≡ Some x
shape_some p None x e = absurd cc
shape_some p (Some y) x e = ap Some (ok_same y x e)

whole_within : (limit : ℕ) (p : Place) (m : Option Data) (n : ℕ) → required (as_whole limit) p m ≡ Ok n → n ≤ limit
whole_within limit p None n e = absurd cc
whole_within limit p (Some d) n e =
    leb-true n limit (kept (λ k. nat_le k limit) (option_and_then as_u64 (as_number d)) n (shape_some p (as_whole limit d) n e))

list_within : (limit : ℕ) (p : Place) (m : Option Data) (ds : Items) → where_present (as_list limit) p m ≡ Ok (Some ds) → item_count ds ≤ limit
list_within limit p None ds e = absurd cc
list_within limit p (Some d) ds e =
    let a = bind_ok (or_shape p (as_list limit d)) _ (Some ds) e in
    let same : a.0 ≡ ds = same_Some a.0 ds (ok_same (Some a.0) (Some ds) a.2) in
    rw (← same) (leb-true (item_count a.0) limit (kept (λ k. nat_le (item_count k) limit) (as_array d) a.0 (shape_some p (as_list limit d) a.0 a.1)))

column_within : (i j : ℕ) (d : Data) (c : Column) → column_at i j d ≡ Ok c → IsColumnWithin c
unfolding column_at
column_within i j d c e =
    let a = bind_ok (object_at (place site.Column i j) d) _ c e in
    let name = bind_ok (required as_name (place site.ColumnName i j) (get (codes "name") d)) _ c a.2 in
    let n = bind_ok (required (as_whole INPUT_CAP) (place site.Distinct i j) (get (codes "distinct") d)) _ c name.2 in
    let made : Column = record { name = name.0; distinct = n.0 } in
    subst IsColumnWithin (ok_same made c n.2) (whole_within INPUT_CAP (place site.Distinct i j) (get (codes "distinct") d) n.0 n.1)

given_all : {X : Type 0} (P : X → Type 0) (f : ℕ → Data → Result X FileFault) → ((at : ℕ) (d : Data) (x : X) → f at d ≡ Ok x → P x) → (o : Option Items) (xs : List X) → each_given f o ≡ Ok xs → All P xs
given_all P f h None xs e = subst (All P) (ok_same [] xs e) (All-nil P)
given_all P f h (Some ds) xs e = each_all P f h 0 ds xs e

columns_within : (i : ℕ) (m : Option Data) (cs : List Column) → columns_at i m ≡ Ok cs → All IsColumnWithin cs
unfolding columns_at
columns_within i m cs e =
    let a = bind_ok (optional (as_list COLUMNS_MAX) (place site.Columns i 0) m) _ cs e in
    given_all IsColumnWithin (column_at i) (column_within i) a.0 cs a.2

table_within : (outer i : ℕ) (d : Data) (t : Table) → table_at outer i d ≡ Ok t → IsTableWithin t
unfolding table_at
table_within outer i d t e =
    let a = bind_ok (object_at (place site.Table i 0) d) _ t e in
    let name = bind_ok (required as_name (place site.TableName i 0) (get (codes "name") d)) _ t a.2 in
    let rows = bind_ok (required (as_whole INPUT_CAP) (place site.TableRows i 0) (get (codes "rows") d)) _ t name.2 in
    let columns = bind_ok (columns_at i (get (codes "columns") d)) _ t rows.2 in
    let made : Table = record { name = name.0; rows = rows.0; columns = columns.0 } in
    subst IsTableWithin (ok_same made t columns.2)
    (whole_within INPUT_CAP (place site.TableRows i 0) (get (codes "rows") d) rows.0 rows.1, columns_within i (get (codes "columns") d) columns.0 columns.1)

given_length : {X : Type 0} (f : ℕ → Data → Result X FileFault) (limit : ℕ) (p : Place) (m : Option Data) (o : Option Items) (xs : List X) → where_present (as_list limit) p m ≡ Ok o → each_given f o ≡ Ok xs → length xs ≤ limit
given_length f limit p m None xs w e = omega (arith, ap length (sym (ok_same [] xs e)))
given_length f limit p m (Some ds) xs w e = omega (arith, each_length f 0 ds xs e, list_within limit p m ds w)

joins_within : (version : Version) (i : ℕ) (m : Option Data) (js : List JoinItem) → joins_at version i m ≡ Ok js → length js ≤ PREDS_MAX
unfolding joins_at
joins_within version i m js e =
    let found = bind_ok (optional (as_list PREDS_MAX) (place site.Joins i 0) m) _ js e in
    given_length (join_at version i) PREDS_MAX (place site.Joins i 0) (present m) found.0 js found.1 found.2

query_within : (version : Version) (outer i : ℕ) (d : Data) (q : QueryItem) → query_at version outer i d ≡ Ok q → IsQueryWithin q
unfolding query_at
query_within version outer i d q e =
    let a = bind_ok (object_at (place site.QueryItem i 0) d) _ q e in
    let name = bind_ok (required as_name (place site.QueryName i 0) (get (codes "name") d)) _ q a.2 in
    let list = bind_ok (required as_array (place site.Relations i 0) (get (codes "relations") d)) _ q name.2 in
    let relations = bind_ok (each (relation_at version i) 0 list.0) _ q list.2 in
    let joins = bind_ok (joins_at version i (get (codes "joins") d)) _ q relations.2 in
    let made : QueryItem = record { name = name.0; relations = relations.0; joins = joins.0 } in
    subst IsQueryWithin (ok_same made q joins.2) (joins_within version i (get (codes "joins") d) joins.0 joins.1)

value_within : (d : Data) (f : File) → file_at d ≡ Ok f → IsFileWithin f
unfolding file_at
value_within d f e =
    let a = bind_ok (object_at (place site.Root 0 0) d) _ f e in
    let version = bind_ok (version_at (get (codes "version") d)) _ f a.2 in
    let table_list = bind_ok (required as_array (place site.Tables 0 0) (get (codes "tables") d)) _ f version.2 in
    let tables = bind_ok (each (table_at 0) 0 table_list.0) _ f table_list.2 in
    let query_list = bind_ok (required as_array (place site.Queries 0 0) (get (codes "queries") d)) _ f tables.2 in
    let queries = bind_ok (each (query_at version.0 0) 0 query_list.0) _ f query_list.2 in
    let made : File = record { tables = tables.0; queries = queries.0 } in
    subst IsFileWithin (ok_same made f queries.2) (record {
      tables = each_all IsTableWithin (table_at 0) (table_within 0) 0 table_list.0 tables.0 tables.1;
      queries = each_all IsQueryWithin (query_at version.0 0) (query_within version.0 0) 0 query_list.0 queries.0 queries.1;
    })

pub given_within : (d : Data) (r : Result File FileFault) → Gives r (file_at d) → IfOk r IsFileWithin
given_within d (Ok f) e = value_within d f e
given_within d (Err x) e = tt
