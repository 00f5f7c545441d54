-- A query over the tables of its file.
use Rattle.std.specs.Prelude.{List}
use Rattle.query_json.specs.declared.file.Table.{Table}
use Rattle.query_json.specs.declared.file.QueryItem.{QueryItem}

pub record Scope : Type 0 where
  pub tables : List Table
  pub item : QueryItem
