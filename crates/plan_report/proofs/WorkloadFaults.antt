-- The fault of a workload's value is a place of the walk, a count or a table's name.
use Rattle.std.proofs.Common.{ℕ, ◌+◌, Bool, true, false, Option, Some, None, is_some, Result, Ok, Err, List, length, nat_lt}
use Rattle.std.specs.Prelude.{codes, if◌then◌else◌, option_and_then, ◌||◌, ◌&&◌}
use Rattle.serde_json.specs.Data.{Data, Items, no_items, item}
use Rattle.serde_json.specs.Find.{as_array, as_object, get}
use Rattle.dpe_base.specs.declared.TheConstants.{INPUT_CAP, PREDS_MAX}
use Rattle.query_json.specs.declared.TheConstants.{COLUMNS_MAX, QUERIES_MAX, TABLES_MAX}
use Rattle.query_json.specs.declared.fault.FileFault.{FileFault}
use Rattle.query_json.specs.declared.fault.FileFault.TheVariants.{Shape, TooManyQueries, TooManyTables}
use Rattle.query_json.specs.declared.file.File.{File}
use Rattle.query_json.specs.declared.file.Table.{Table}
use Rattle.query_json.specs.declared.file.Version.{Version}
use Rattle.query_json.specs.declared.place.Place.{Place}
use Rattle.query_json.specs.declared.place.Site.TheVariants as site
use Rattle.query_json.specs.Answer.{◌>>=◌}
use Rattle.query_json.specs.Entries.{counted, entries_of_value, or_table_twice, table_names, tables_of}
use Rattle.query_json.specs.Names.{distinct_names}
use Rattle.query_json.specs.Walk.{as_list, as_name, as_ratio, as_version, as_whole, column_at, columns_at, each, each_given, file_at, join_at, joins_at, object_at, optional, or_shape, place, present, query_at, relation_at, required, selectivity_at, table_at, version_at, where_present}
use Rattle.plan_report.specs.Certs.Faults.{IsFaultOfValue}

-- a fault, if there is one, is a value's
abbrev pub FailsByValue : {X : Type 0} → Result X FileFault → Type 0
FailsByValue (Ok x) = Unit {0}
FailsByValue (Err fault) = IsFaultOfValue fault

then_by_value : {X Y : Type 0} (r : Result X FileFault) (rest : X → Result Y FileFault) → FailsByValue r → ((x : X) → FailsByValue (rest x))
    → FailsByValue (r >>= rest)
then_by_value (Ok x) rest here later = later x
then_by_value (Err fault) rest here later = here

shape : {X : Type 0} (p : Place) (o : Option X) → FailsByValue (or_shape p o)
shape p None = tt
shape p (Some x) = tt

kept : {X : Type 0} (fault : FileFault) (b : Bool) (x : X) → IsFaultOfValue fault → FailsByValue (if b then Ok x else Err fault)
kept fault true x h = tt
kept fault false x h = h

object : (p : Place) (d : Data) → FailsByValue (object_at p d)
object p d = kept {X = Unit {0}} (Shape p) (is_some (as_object d)) tt tt

must : {X : Type 0} (f : Data → Option X) (p : Place) (member : Option Data) → FailsByValue (required f p member)
must f p member = shape p (option_and_then f member)

may : {X : Type 0} (f : Data → Option X) (p : Place) (member : Option Data) → FailsByValue (optional f p member)
may f p member = by (present member)
  where
    by : (o : Option Data) → FailsByValue (where_present f p o)
    by None = tt
    by (Some d) = then_by_value (or_shape p (f d)) _ (shape p (f d)) (λ x. tt)

items : {X : Type 0} (f : ℕ → Data → Result X FileFault) (at : ℕ) (ds : Items) → ((i : ℕ) (d : Data) → FailsByValue (f i d))
    → FailsByValue (each f at ds)
items f at no_items h = tt
items f at (item d ds) h =
    then_by_value (f at d) _ (h at d) (λ x. then_by_value (each f (at + 1) ds) _ (items f (at + 1) ds h) (λ xs. tt))

given : {X : Type 0} (f : ℕ → Data → Result X FileFault) (o : Option Items) → ((i : ℕ) (d : Data) → FailsByValue (f i d))
    → FailsByValue (each_given f o)
given f None h = tt
given f (Some ds) h = items f 0 ds h

column : (i j : ℕ) (d : Data) → FailsByValue (column_at i j d)
unfolding column_at
column i j d =
    then_by_value (object_at (place site.Column i j) d) _ (object (place site.Column i j) d) (λ fields.
    then_by_value (required as_name (place site.ColumnName i j) (get (codes "name") d)) _ (must as_name (place site.ColumnName i j) (get (codes "name") d)) (λ name.
    then_by_value (required (as_whole INPUT_CAP) (place site.Distinct i j) (get (codes "distinct") d)) _ (must (as_whole INPUT_CAP) (place site.Distinct i j) (get (codes "distinct") d)) (λ distinct. tt)))

columns : (i : ℕ) (member : Option Data) → FailsByValue (columns_at i member)
unfolding columns_at
columns i member =
    then_by_value (optional (as_list COLUMNS_MAX) (place site.Columns i 0) member) _ (may (as_list COLUMNS_MAX) (place site.Columns i 0) member) (λ found.
    given (column_at i) found (column i))

table : (outer i : ℕ) (d : Data) → FailsByValue (table_at outer i d)
unfolding table_at
table outer i d =
    then_by_value (object_at (place site.Table i 0) d) _ (object (place site.Table i 0) d) (λ fields.
    then_by_value (required as_name (place site.TableName i 0) (get (codes "name") d)) _ (must as_name (place site.TableName i 0) (get (codes "name") d)) (λ name.
    then_by_value (required (as_whole INPUT_CAP) (place site.TableRows i 0) (get (codes "rows") d)) _ (must (as_whole INPUT_CAP) (place site.TableRows i 0) (get (codes "rows") d)) (λ rows.
    then_by_value (columns_at i (get (codes "columns") d)) _ (columns i (get (codes "columns") d)) (λ found. tt))))

relation : (version : Version) (i j : ℕ) (d : Data) → FailsByValue (relation_at version i j d)
unfolding relation_at
relation version i j d =
    then_by_value (object_at (place site.Relation i j) d) _ (object (place site.Relation i j) d) (λ fields.
    then_by_value (required as_name (place site.Alias i j) (get (codes "alias") d)) _ (must as_name (place site.Alias i j) (get (codes "alias") d)) (λ alias.
    then_by_value (required as_name (place site.TableRef i j) (get (codes "table") d)) _ (must as_name (place site.TableRef i j) (get (codes "table") d)) (λ named.
    then_by_value (optional (as_ratio version) (place site.Filter i j) (get (codes "filter") d)) _ (may (as_ratio version) (place site.Filter i j) (get (codes "filter") d)) (λ filter. tt))))

selectivity : (version : Version) (p : Place) (both : Bool) (member : Option Data) → FailsByValue (selectivity_at version p both member)
unfolding selectivity_at
selectivity version p both member =
    then_by_value (optional (as_ratio version) p member) _ (may (as_ratio version) p member) (λ found. kept (Shape p) (both || is_some found) found tt)

joined : (version : Version) (i j : ℕ) (d : Data) → FailsByValue (join_at version i j d)
unfolding join_at
joined version i j d =
    then_by_value (object_at (place site.JoinItem i j) d) _ (object (place site.JoinItem i j) d) (λ fields.
    then_by_value (required as_name (place site.Left i j) (get (codes "left") d)) _ (must as_name (place site.Left i j) (get (codes "left") d)) (λ left.
    then_by_value (required as_name (place site.Right i j) (get (codes "right") d)) _ (must as_name (place site.Right i j) (get (codes "right") d)) (λ right.
    then_by_value (optional as_name (place site.LeftColumn i j) (get (codes "left_column") d)) _ (may as_name (place site.LeftColumn i j) (get (codes "left_column") d)) (λ first.
    then_by_value (optional as_name (place site.RightColumn i j) (get (codes "right_column") d)) _ (may as_name (place site.RightColumn i j) (get (codes "right_column") d)) (λ second.
    then_by_value (selectivity_at version (place site.Selectivity i j) (is_some first && is_some second) (get (codes "selectivity") d)) _
    (selectivity version (place site.Selectivity i j) (is_some first && is_some second) (get (codes "selectivity") d)) (λ found. tt))))))

joins : (version : Version) (i : ℕ) (member : Option Data) → FailsByValue (joins_at version i member)
unfolding joins_at
joins version i member =
    then_by_value (optional (as_list PREDS_MAX) (place site.Joins i 0) member) _ (may (as_list PREDS_MAX) (place site.Joins i 0) member) (λ found.
    given (join_at version i) found (joined version i))

query : (version : Version) (outer i : ℕ) (d : Data) → FailsByValue (query_at version outer i d)
unfolding query_at
query version outer i d =
    then_by_value (object_at (place site.QueryItem i 0) d) _ (object (place site.QueryItem i 0) d) (λ fields.
    then_by_value (required as_name (place site.QueryName i 0) (get (codes "name") d)) _ (must as_name (place site.QueryName i 0) (get (codes "name") d)) (λ name.
    then_by_value (required as_array (place site.Relations i 0) (get (codes "relations") d)) _ (must as_array (place site.Relations i 0) (get (codes "relations") d)) (λ list.
    then_by_value (each (relation_at version i) 0 list) _ (items (relation_at version i) 0 list (relation version i)) (λ relations.
    then_by_value (joins_at version i (get (codes "joins") d)) _ (joins version i (get (codes "joins") d)) (λ found. tt)))))

file : (d : Data) → FailsByValue (file_at d)
unfolding file_at
file d =
    then_by_value (object_at (place site.Root 0 0) d) _ (object (place site.Root 0 0) d) (λ fields.
    then_by_value (version_at (get (codes "version") d)) _
    (then_by_value (optional as_version (place site.Version 0 0) (get (codes "version") d)) _ (may as_version (place site.Version 0 0) (get (codes "version") d)) (λ named. tt)) (λ version.
    then_by_value (required as_array (place site.Tables 0 0) (get (codes "tables") d)) _ (must as_array (place site.Tables 0 0) (get (codes "tables") d)) (λ table_list.
    then_by_value (each (table_at 0) 0 table_list) _ (items (table_at 0) 0 table_list (table 0)) (λ tables.
    then_by_value (required as_array (place site.Queries 0 0) (get (codes "queries") d)) _ (must as_array (place site.Queries 0 0) (get (codes "queries") d)) (λ query_list.
    then_by_value (each (query_at version 0) 0 query_list) _ (items (query_at version 0) 0 query_list (query version 0)) (λ queries. tt))))))

counted_by : (a b : Bool) → FailsByValue {X = Unit {0}} (if a then Err TooManyTables else (if b then Err TooManyQueries else Ok tt))
counted_by true b = tt
counted_by false true = tt
counted_by false false = tt

counts : (f : File) → FailsByValue (counted f)
counts f = counted_by (nat_lt TABLES_MAX (length f.tables)) (nat_lt QUERIES_MAX (length f.queries))

names : (r : Result (List (List ℕ)) (List ℕ)) → FailsByValue (or_table_twice r)
names (Ok found) = tt
names (Err name) = tt

tables_by_value : (ts : List Table) → FailsByValue (tables_of ts)
tables_by_value ts = then_by_value (table_names ts) _ (names (distinct_names (λ t. t.name) ts)) (λ found. tt)

pub workload : (d : Data) → FailsByValue (entries_of_value d)
unfolding entries_of_value
workload d =
    then_by_value (file_at d) _ (file d) (λ f.
    then_by_value (counted f) _ (counts f) (λ size.
    then_by_value (tables_of f.tables) _ (tables_by_value f.tables) (λ tables. tt)))
