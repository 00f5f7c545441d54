-- What the walk makes sure of: the limits of the numbers and lists that a query takes over.
use Rattle.std.specs.Prelude.{◌≤◌, length, All}
use Rattle.dpe_base.specs.declared.TheConstants.{INPUT_CAP, PREDS_MAX}
use Rattle.query_json.specs.declared.file.Column.{Column}
use Rattle.query_json.specs.declared.file.Table.{Table}
use Rattle.query_json.specs.declared.file.QueryItem.{QueryItem}
use Rattle.query_json.specs.declared.file.File.{File}

abbrev pub IsColumnWithin : Column → Type 0
IsColumnWithin c = c.distinct ≤ INPUT_CAP

abbrev pub IsTableWithin : Table → Type 0
IsTableWithin t = (t.rows ≤ INPUT_CAP) × All IsColumnWithin t.columns

abbrev pub IsQueryWithin : QueryItem → Type 0
IsQueryWithin q = length q.joins ≤ PREDS_MAX

pub record IsFileWithin (f : File) : Type 0 where
  pub tables : All IsTableWithin f.tables
  pub queries : All IsQueryWithin f.queries
