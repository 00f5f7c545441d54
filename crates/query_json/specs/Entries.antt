-- What a workload file holds: entries, each accepted or refused, or the first fault.
use Rattle.std.specs.Prelude.{ℕ, List, length, map, nat_lt, if◌then◌else◌, Result, Ok, Err}
use Rattle.serde_json.specs.Data.{Data}
use Rattle.query_json.specs.declared.TheConstants.{TABLES_MAX, QUERIES_MAX}
use Rattle.query_json.specs.declared.fault.FileFault.{FileFault}
use Rattle.query_json.specs.declared.fault.FileFault.TheVariants.{TooManyTables, TooManyQueries, DuplicateTable}
use Rattle.query_json.specs.declared.file.File.{File}
use Rattle.query_json.specs.declared.file.Table.{Table}
use Rattle.query_json.specs.declared.file.QueryItem.{QueryItem}
use Rattle.query_json.specs.declared.refusal.QueryRefusal.{QueryRefusal}
use Rattle.query_json.specs.declared.entry.Named.{Named}
use Rattle.query_json.specs.declared.entry.Part.{Part}
use Rattle.query_json.specs.declared.entry.Part.TheVariants.{Accepted, Refused}
use Rattle.query_json.specs.declared.entry.Entry.{Entry}
use Rattle.query_json.specs.Answer.{◌>>=◌}
use Rattle.query_json.specs.Names.{distinct_names}
use Rattle.query_json.specs.Queries.{named_of}
use Rattle.query_json.specs.Walk.{file_at, json_at}

abbrev pub counted : File → Result (Unit {0}) FileFault
counted f = if nat_lt TABLES_MAX (length f.tables) then Err TooManyTables else (if nat_lt QUERIES_MAX (length f.queries) then Err TooManyQueries else Ok tt)

abbrev pub or_table_twice : Result (List (List ℕ)) (List ℕ) → Result (List (List ℕ)) FileFault
or_table_twice (Ok names) = Ok names
or_table_twice (Err name) = Err (DuplicateTable name)

abbrev pub table_names : List Table → Result (List (List ℕ)) FileFault
table_names ts = or_table_twice (distinct_names (λ t. t.name) ts)

-- the tables of a file, of which no two have one name
abbrev pub tables_of : List Table → Result (List Table) FileFault
tables_of ts = table_names ts >>= λ names. Ok ts

abbrev pub part_of : Result Named QueryRefusal → Part
part_of (Ok named) = Accepted named
part_of (Err refusal) = Refused refusal

unfoldable pub entry_of : List Table → QueryItem → Entry
entry_of tables q = record { name = q.name; part = part_of (named_of tables q) }

-- the entries of a value, or its first fault
unfoldable pub entries_of_value : Data → Result (List Entry) FileFault
entries_of_value d = do
  file ← file_at d
  size ← counted file
  tables ← tables_of file.tables
  Ok (map (entry_of tables) file.queries)

-- the entries of a file's bytes, or the first fault other than want of memory
unfoldable pub entries_of : List ℕ → Result (List Entry) FileFault
entries_of bytes = do
  d ← json_at bytes
  entries_of_value d
