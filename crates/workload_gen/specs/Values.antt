-- The workload file of a sample.
use Rattle.std.specs.Prelude.{ℕ, ◌+◌, List, [], ◌∷◌, ◌++◌, Option, Some, None, codes, decimal}
use Rattle.serde_json.specs.Data.{Data, number, unsigned, string, array, object, Items, no_items, item, no_members, member}
use Rattle.serde_json.specs.Written.{compact_text}
use Rattle.workload_gen.specs.declared.sample.Table.{Table}
use Rattle.workload_gen.specs.declared.sample.Relation.{Relation}
use Rattle.workload_gen.specs.declared.sample.Join.{Join}
use Rattle.workload_gen.specs.Draws.{sample_of}
use Rattle.workload_gen.specs.Sample.{Sample, SampleQuery}

-- ---- the names t0, r1, q2 and so on

abbrev pub table_name : ℕ → List ℕ
table_name t = codes "t" ++ decimal t

abbrev pub query_name : ℕ → List ℕ
query_name j = codes "q" ++ decimal j

abbrev pub alias : ℕ → List ℕ
alias i = codes "r" ++ decimal i

abbrev pub column_name : List ℕ
column_name = codes "k"

-- ---- values

abbrev pub whole : ℕ → Data
whole n = number (unsigned n)

abbrev pub pair : Data → Data → Data
pair x y = array (item x (item y no_items))

-- an array with the value of each part, which may tell the part's place
abbrev pub values : {A : Type 0} → (ℕ → A → Data) → ℕ → List A → Items
values value at [] = no_items
values value at (x ∷ xs) = item (value at x) (values value (at + 1) xs)

-- the members of an object stand in the order of their keys

abbrev pub column_value : ℕ → Data
column_value distinct = object
    (member (codes "distinct") (whole distinct)
    (member (codes "name") (string column_name) no_members))

unfoldable pub table_value : ℕ → Table → Data
table_value t table = object
    (member (codes "columns") (array (item (column_value table.distinct) no_items))
    (member (codes "name") (string (table_name t))
    (member (codes "rows") (whole table.rows) no_members)))

unfoldable pub relation_value : ℕ → Relation → Data
relation_value i relation = object
    (member (codes "alias") (string (alias i))
    (member (codes "filter") (pair (whole relation.kept) (whole 100))
    (member (codes "table") (string (table_name relation.table)) no_members)))

abbrev pub join_value_by : ℕ → ℕ → Option ℕ → Data
join_value_by left right None = object
    (member (codes "left") (string (alias left))
    (member (codes "left_column") (string column_name)
    (member (codes "right") (string (alias right))
    (member (codes "right_column") (string column_name) no_members))))
join_value_by left right (Some one_in) = object
    (member (codes "left") (string (alias left))
    (member (codes "right") (string (alias right))
    (member (codes "selectivity") (pair (whole 1) (whole one_in)) no_members)))

unfoldable pub join_value : ℕ → Join → Data
join_value k join = join_value_by join.left join.right join.one_in

unfoldable pub query_value : ℕ → SampleQuery → Data
query_value j query = object
    (member (codes "joins") (array (values join_value 0 query.joins))
    (member (codes "name") (string (query_name j))
    (member (codes "relations") (array (values relation_value 0 query.relations)) no_members)))

unfoldable pub workload_value : Sample → Data
workload_value sample = object
    (member (codes "queries") (array (values query_value 0 sample.queries))
    (member (codes "tables") (array (values table_value 0 sample.tables)) no_members))

-- the bytes that a number gives
unfoldable pub workload_of : ℕ → List ℕ
workload_of n = compact_text (workload_value (sample_of n))
