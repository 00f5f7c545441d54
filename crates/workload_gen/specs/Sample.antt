-- A sample workload.
use Rattle.std.specs.Prelude.{List}
use Rattle.workload_gen.specs.declared.sample.Table.{Table}
use Rattle.workload_gen.specs.declared.sample.Relation.{Relation}
use Rattle.workload_gen.specs.declared.sample.Join.{Join}

-- relations and joins, each numbered from 0
pub record SampleQuery : Type 0 where
  pub relations : List Relation
  pub joins : List Join

pub record Sample : Type 0 where
  pub tables : List Table
  pub queries : List SampleQuery
