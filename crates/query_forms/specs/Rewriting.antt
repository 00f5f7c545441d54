-- A workload file rewritten in version 2: the same file with its members of the format alone, or the file's first fault.
use Rattle.std.specs.Prelude.{ℕ, List, Result, Ok}
use Rattle.serde_json.specs.Data.{Data}
use Rattle.serde_json.specs.Written.{compact_text}
use Rattle.query_json.specs.declared.fault.FileFault.{FileFault}
use Rattle.query_json.specs.Answer.{◌>>=◌}
use Rattle.query_json.specs.Entries.{entries_of_value}
use Rattle.query_json.specs.Walk.{json_at}
use Rattle.query_forms.specs.Forms.{rewritten_file}

-- a value in version 2, or its first fault
unfoldable pub rewritten : Data → Result Data FileFault
rewritten d = do
  entries ← entries_of_value d
  Ok (rewritten_file d)

-- the text of a file's bytes in version 2, or the first fault
unfoldable pub rewritten_text : List ℕ → Result (List ℕ) FileFault
rewritten_text bytes = do
  d ← json_at bytes
  new ← rewritten d
  Ok (compact_text new)
