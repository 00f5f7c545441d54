-- The walk of a workload file: what stands at each site, and the first place that breaks the format.
pub mod Limits
pub mod Places
pub mod Tree
use Rattle.std.specs.Prelude.{ℕ, ◌+◌, ◌&&◌, ◌||◌, ◌==◌, not, nat_le, List, [], ◌∷◌, length, Bool, if◌then◌else◌, Option, Some, None, option_and_then, option_map, is_some, Result, Ok, Err, codes}
use Rattle.std.specs.List.{list_all}
use Rattle.dpe_base.specs.declared.TheConstants.{INPUT_CAP, PREDS_MAX}
use Rattle.query_json.specs.declared.TheConstants.{NAME_MAX, COLUMNS_MAX}
use Rattle.serde_json.specs.Data.{Data, null, Items, no_items, item}
use Rattle.serde_json.specs.Find.{get, as_number, as_u64, as_str, as_array, as_object}
use Rattle.query_json.specs.declared.place.Site.{Site}
use Rattle.query_json.specs.declared.place.Site.TheVariants as site
use Rattle.query_json.specs.declared.place.Place.{Place}
use Rattle.query_json.specs.declared.fault.FileFault.{FileFault}
use Rattle.query_json.specs.declared.fault.FileFault.TheVariants.{Shape, NotJson}
use Rattle.query_json.specs.declared.file.Table.{Table}
use Rattle.query_json.specs.declared.file.Column.{Column}
use Rattle.query_json.specs.declared.file.File.{File}
use Rattle.query_json.specs.declared.file.Ratio.{Ratio}
use Rattle.query_json.specs.declared.file.Version.{Version}
use Rattle.query_json.specs.declared.file.Version.TheVariants.{One, Two}
use Rattle.query_json.specs.declared.file.RelationItem.{RelationItem}
use Rattle.query_json.specs.declared.file.JoinItem.{JoinItem}
use Rattle.query_json.specs.declared.file.QueryItem.{QueryItem}
use Rattle.std.specs.Str.{is_utf8}
use Rattle.serde_json.specs.Read.{read}
use Rattle.query_json.specs.Answer.{◌>>=◌}
use Rattle.query_json.specs.Decimals.{decimal_of}

abbrev pub place : Site → ℕ → ℕ → Place
place s i j = record { site = s; i = i; j = j }

-- ---- what may stand at a site

-- no control character
abbrev pub is_printable : ℕ → Bool
is_printable b = nat_le 32 b && not (b == 127)

-- a name has at least one byte, and each is printable
abbrev pub is_name : List ℕ → Bool
is_name s = nat_le 1 (length s) && nat_le (length s) NAME_MAX && list_all is_printable s

abbrev pub as_name : Data → Option (List ℕ)
as_name d = option_and_then (λ s. if is_name s then Some s else None) (as_str d)

abbrev pub as_whole : ℕ → Data → Option ℕ
as_whole limit d = option_and_then (λ n. if nat_le n limit then Some n else None) (option_and_then as_u64 (as_number d))

abbrev pub item_count : Items → ℕ
item_count no_items = 0
item_count (item d ds) = 1 + item_count ds

abbrev pub as_list : ℕ → Data → Option Items
as_list limit d = option_and_then (λ ds. if nat_le (item_count ds) limit then Some ds else None) (as_array d)

-- ---- present, absent, broken

abbrev pub object_at : Place → Data → Result (Unit {0}) FileFault
object_at p d = if is_some (as_object d) then Ok tt else Err (Shape p)

abbrev pub or_shape : {X : Type 0} → Place → Option X → Result X FileFault
or_shape p None = Err (Shape p)
or_shape p (Some x) = Ok x

-- a member that must be there
abbrev pub required : {X : Type 0} → (Data → Option X) → Place → Option Data → Result X FileFault
required f p member = or_shape p (option_and_then f member)

-- a member that is null counts as absent
abbrev pub present : Option Data → Option Data
present None = None
present (Some null) = None
present (Some d) = Some d

abbrev pub where_present : {X : Type 0} → (Data → Option X) → Place → Option Data → Result (Option X) FileFault
where_present f p None = Ok None
where_present f p (Some d) = or_shape p (f d) >>= λ x. Ok (Some x)

-- a member that may be absent
abbrev pub optional : {X : Type 0} → (Data → Option X) → Place → Option Data → Result (Option X) FileFault
optional f p member = where_present f p (present member)

-- the items of an array, one after the other
abbrev pub each : {X : Type 0} → (ℕ → Data → Result X FileFault) → ℕ → Items → Result (List X) FileFault
each f at no_items = Ok []
each f at (item d ds) = f at d >>= λ x. each f (at + 1) ds >>= λ xs. Ok (x ∷ xs)

-- no items where there is no array
abbrev pub each_given : {X : Type 0} → (ℕ → Data → Result X FileFault) → Option Items → Result (List X) FileFault
each_given f None = Ok []
each_given f (Some ds) = each f 0 ds

-- ---- the sites

abbrev pub version_numbered : ℕ → Option Version
version_numbered n = if n == 1 then Some One else (if n == 2 then Some Two else None)

abbrev pub as_version : Data → Option Version
as_version d = option_and_then version_numbered (option_and_then as_u64 (as_number d))

-- a file that names no version is one of the first
abbrev pub or_first : Option Version → Version
or_first None = One
or_first (Some version) = version

abbrev pub version_at : Option Data → Result Version FileFault
version_at member = optional as_version (place site.Version 0 0) member >>= λ named. Ok (or_first named)

unfoldable pub column_at : ℕ → ℕ → Data → Result Column FileFault
column_at i j d = do
  fields ← object_at (place site.Column i j) d
  name ← required as_name (place site.ColumnName i j) (get (codes "name") d)
  distinct ← required (as_whole INPUT_CAP) (place site.Distinct i j) (get (codes "distinct") d)
  Ok (record { name = name; distinct = distinct })

unfoldable pub columns_at : ℕ → Option Data → Result (List Column) FileFault
columns_at i member = do
  found ← optional (as_list COLUMNS_MAX) (place site.Columns i 0) member
  each_given (column_at i) found

unfoldable pub table_at : ℕ → ℕ → Data → Result Table FileFault
table_at outer i d = do
  fields ← object_at (place site.Table i 0) d
  name ← required as_name (place site.TableName i 0) (get (codes "name") d)
  rows ← required (as_whole INPUT_CAP) (place site.TableRows i 0) (get (codes "rows") d)
  columns ← columns_at i (get (codes "columns") d)
  Ok (record { name = name; rows = rows; columns = columns })

-- a fraction's two numbers, not yet looked at
abbrev pub as_pair : Items → Option Ratio
as_pair no_items = None
as_pair (item a no_items) = None
as_pair (item a (item b no_items)) = option_and_then (λ n. option_map (λ d. record { num = n; den = d }) (option_and_then as_u64 (as_number b))) (option_and_then as_u64 (as_number a))
as_pair (item a (item b (item c ds))) = None

-- a decimal text, which the first version doesn't have
abbrev pub as_decimal : Version → Data → Option Ratio
as_decimal One d = None
as_decimal Two d = option_and_then decimal_of (as_str d)

abbrev pub ratio_by : Version → Data → Option Items → Option Ratio
ratio_by version d None = as_decimal version d
ratio_by version d (Some ds) = as_pair ds

-- a fraction: an array of its two numbers, or a decimal text
abbrev pub as_ratio : Version → Data → Option Ratio
as_ratio version d = ratio_by version d (as_array d)

unfoldable pub relation_at : Version → ℕ → ℕ → Data → Result RelationItem FileFault
relation_at version i j d = do
  fields ← object_at (place site.Relation i j) d
  alias ← required as_name (place site.Alias i j) (get (codes "alias") d)
  table ← required as_name (place site.TableRef i j) (get (codes "table") d)
  filter ← optional (as_ratio version) (place site.Filter i j) (get (codes "filter") d)
  Ok (record { alias = alias; table = table; filter = filter })

-- it may be absent where both columns are there
unfoldable pub selectivity_at : Version → Place → Bool → Option Data → Result (Option Ratio) FileFault
selectivity_at version p columns member = do
  found ← optional (as_ratio version) p member
  if columns || is_some found then Ok found else Err (Shape p)

unfoldable pub join_at : Version → ℕ → ℕ → Data → Result JoinItem FileFault
join_at version i j d = do
  fields ← object_at (place site.JoinItem i j) d
  left ← required as_name (place site.Left i j) (get (codes "left") d)
  right ← required as_name (place site.Right i j) (get (codes "right") d)
  left_column ← optional as_name (place site.LeftColumn i j) (get (codes "left_column") d)
  right_column ← optional as_name (place site.RightColumn i j) (get (codes "right_column") d)
  selectivity ← selectivity_at version (place site.Selectivity i j) (is_some left_column && is_some right_column) (get (codes "selectivity") d)
  Ok (record { left = left; right = right; left_column = left_column; right_column = right_column; selectivity = selectivity })

unfoldable pub joins_at : Version → ℕ → Option Data → Result (List JoinItem) FileFault
joins_at version i member = do
  found ← optional (as_list PREDS_MAX) (place site.Joins i 0) member
  each_given (join_at version i) found

unfoldable pub query_at : Version → ℕ → ℕ → Data → Result QueryItem FileFault
query_at version outer i d = do
  fields ← object_at (place site.QueryItem i 0) d
  name ← required as_name (place site.QueryName i 0) (get (codes "name") d)
  list ← required as_array (place site.Relations i 0) (get (codes "relations") d)
  relations ← each (relation_at version i) 0 list
  joins ← joins_at version i (get (codes "joins") d)
  Ok (record { name = name; relations = relations; joins = joins })

-- what a value says
unfoldable pub file_at : Data → Result File FileFault
file_at d = do
  fields ← object_at (place site.Root 0 0) d
  version ← version_at (get (codes "version") d)
  table_list ← required as_array (place site.Tables 0 0) (get (codes "tables") d)
  tables ← each (table_at 0) 0 table_list
  query_list ← required as_array (place site.Queries 0 0) (get (codes "queries") d)
  queries ← each (query_at version 0) 0 query_list
  Ok (record { tables = tables; queries = queries })

-- what serde_json reads, where the bytes are UTF-8
abbrev pub json_of : List ℕ → Option Data
json_of bytes = if is_utf8 bytes then read bytes else None

abbrev pub or_not_json : Option Data → Result Data FileFault
or_not_json None = Err NotJson
or_not_json (Some d) = Ok d

unfoldable pub json_at : List ℕ → Result Data FileFault
json_at bytes = or_not_json (json_of bytes)
