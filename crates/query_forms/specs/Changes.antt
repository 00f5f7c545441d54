-- A file of changes: a workload, and new numbers of rows for tables of it. What it asks for, or the first of its faults.
use Rattle.std.specs.Prelude.{◌≡◌, ◌≤◌, ◌<◌, ℕ, ◌+◌, ◌||◌, List, [], ◌∷◌, Bool, false, codes, if◌then◌else◌, slice_get, Option, Some, None, option_and_then, option_map, Result, Ok, Err}
use Rattle.std.specs.List.{All, filter, range_with_len, slice_index_or}
use Rattle.std.specs.Str.{bytes_eq}
use Rattle.dpe_base.specs.declared.TheConstants.{INPUT_CAP}
use Rattle.dpe_base.specs.Queries.{relations}
use Rattle.serde_json.specs.Data.{Data, Items, no_items, item}
use Rattle.serde_json.specs.Find.{as_str, at, get}
use Rattle.query_json.specs.declared.entry.Entry.{Entry}
use Rattle.query_json.specs.declared.entry.Part.{Part}
use Rattle.query_json.specs.declared.entry.Part.TheVariants.{Accepted, Refused}
use Rattle.query_json.specs.declared.fault.FileFault.{FileFault}
use Rattle.query_json.specs.Answer.{◌>>=◌}
use Rattle.query_json.specs.Entries.{entries_of_value}
use Rattle.query_json.specs.Walk.Places.{items_in}
use Rattle.query_json.specs.Walk.{as_list, as_name, as_whole, json_of}
use Rattle.query_forms.specs.declared.changes.Asked.{Asked}
use Rattle.query_forms.specs.declared.changes.Change.{Change}
use Rattle.query_forms.specs.declared.changes.Changed.{Changed}
use Rattle.query_forms.specs.declared.changes.ChangeFault.{ChangeFault}
use Rattle.query_forms.specs.declared.changes.ChangeFault.TheVariants as fault

-- The answer is what the definition says of the file, unless memory runs out.
abbrev pub FailsBy : {X : Type 0} → ChangeFault → Result X ChangeFault → Type 0
FailsBy fault.NoMemory said = Unit {0}
FailsBy e said = said ≡ Err e

abbrev pub ChangesBy : {X Y : Type 0} → (X → Y) → Result X ChangeFault → Result Y ChangeFault → Type 0
ChangesBy view (Ok x) said = said ≡ Ok (view x)
ChangesBy view (Err e) said = FailsBy e said

-- ---- what the file asks for

-- a change: the name of a table, and its new rows
abbrev pub as_change : Data → Option Asked
as_change d =
    option_and_then (λ table. option_map (λ rows. record { table = table; rows = rows }) (option_and_then (as_whole INPUT_CAP) (get (codes "rows") d)))
    (option_and_then as_name (get (codes "table") d))

-- each of the items, where all of them are changes
abbrev pub all_changes : Items → Option (List Asked)
all_changes no_items = Some []
all_changes (item d ds) = option_and_then (λ c. option_map (λ cs. c ∷ cs) (all_changes ds)) (as_change d)

-- the most changes of a file
abbrev pub most_changes : ℕ
most_changes = 16

abbrev pub changes_in : Option Data → Option (List Asked)
changes_in member = option_and_then all_changes (option_and_then (as_list most_changes) member)

-- ---- what a change touches

abbrev pub is_text : List ℕ → Option (List ℕ) → Bool
is_text name None = false
is_text name (Some s) = bytes_eq name s

-- the member is this text
abbrev pub says : List ℕ → Option Data → Bool
says name member = is_text name (option_and_then as_str member)

-- one of the tables has the name
abbrev pub has_table : List ℕ → Items → Bool
has_table name no_items = false
has_table name (item d ds) = says name (get (codes "name") d) || has_table name ds

-- the relation with this number is on the table
abbrev pub is_on : List ℕ → Option Data → ℕ → Bool
is_on table relations r = says table (option_and_then (get (codes "table")) (option_and_then (at r) relations))

-- the relations of the query at a place of the workload
abbrev pub relations_at : Data → ℕ → Option Data
relations_at workload i = option_and_then (get (codes "relations")) (option_and_then (at i) (get (codes "queries") workload))

-- the numbers of an accepted query's relations on the table, in ascending order
abbrev pub uses_in : List ℕ → Option Data → Part → List ℕ
uses_in table rs (Accepted named) = filter (is_on table rs) (range_with_len 0 (relations named.query))
uses_in table rs (Refused why) = []

-- the same of each query, from the one at a place
abbrev pub uses_from : List ℕ → Data → ℕ → List Entry → List (List ℕ)
uses_from table workload i [] = []
uses_from table workload i (entry ∷ entries) =
    uses_in table (relations_at workload i) entry.part ∷ uses_from table workload (i + 1) entries

-- ---- its bounds

-- the numbers are those of relations of the query; a refused query has none
abbrev pub AreRelationsOf : Part → List ℕ → Type 0
AreRelationsOf (Accepted named) rs = All (λ r. r < relations named.query) rs
AreRelationsOf (Refused why) rs = rs ≡ []

-- a change gives a table no more rows than it may have, and uses relations that the queries have
pub record IsWithin (entries : List Entry) (c : Change) : Type 0 where
  pub rows : c.rows ≤ INPUT_CAP
  pub uses : (i : ℕ) (e : Entry) → slice_get entries i ≡ Some e → AreRelationsOf e.part (slice_index_or c.uses i [])

-- ---- the file

abbrev pub or_not_json : Option Data → Result Data ChangeFault
or_not_json None = Err fault.NotJson
or_not_json (Some d) = Ok d

abbrev pub or_bad : {X : Type 0} → Option X → Result X ChangeFault
or_bad None = Err fault.BadChanges
or_bad (Some x) = Ok x

abbrev pub or_workload : {X : Type 0} → Result X FileFault → Result X ChangeFault
or_workload (Ok x) = Ok x
or_workload (Err why) = Err (fault.Workload why)

-- a change, by its place in the file, of a table that the workload has
abbrev pub change_at : Data → List Entry → ℕ → Asked → Result Change ChangeFault
change_at workload entries j asked =
    if has_table asked.table (items_in (get (codes "tables") workload))
    then Ok (record { rows = asked.rows; uses = uses_from asked.table workload 0 entries })
    else Err (fault.UnknownTable j)

abbrev pub changes_from : Data → List Entry → ℕ → List Asked → Result (List Change) ChangeFault
changes_from workload entries j [] = Ok []
changes_from workload entries j (asked ∷ more) =
    change_at workload entries j asked >>= λ change. changes_from workload entries (j + 1) more >>= λ changes. Ok (change ∷ changes)

-- what the bytes of a file of changes ask for, or the first fault other than want of memory
unfoldable pub changed_of : List ℕ → Result Changed ChangeFault
changed_of bytes = do
  d ← or_not_json (json_of bytes)
  asked ← or_bad (changes_in (get (codes "changes") d))
  workload ← or_bad (get (codes "workload") d)
  entries ← or_workload (entries_of_value workload)
  changes ← changes_from workload entries 0 asked
  Ok (record { workload = entries; changes = changes })
