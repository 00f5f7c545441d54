-- A sample's file has these tables and queries.
use Rattle.std.proofs.Common.{◌≡◌, ℕ, ◌+◌, ◌<◌, ◌≤◌, true, List, [], ◌∷◌, length, Option, Some, None, Result, Ok, refl, arith}
use Rattle.std.specs.Prelude.{nat_le}
use Rattle.std.proofs.lemmas.Bool.{le-leb}
use Rattle.dpe_base.specs.declared.TheConstants.{INPUT_CAP, PREDS_MAX}
use Rattle.serde_json.specs.Data.{Data, string, number, unsigned, array}
use Rattle.query_json.specs.declared.file.Table.{Table as TableItem}
use Rattle.query_json.specs.declared.file.Column.{Column as ColumnItem}
use Rattle.query_json.specs.declared.file.Ratio.{Ratio}
use Rattle.query_json.specs.declared.file.RelationItem.{RelationItem}
use Rattle.query_json.specs.declared.file.JoinItem.{JoinItem}
use Rattle.query_json.specs.declared.file.QueryItem.{QueryItem}
use Rattle.query_json.specs.declared.file.File.{File}
use Rattle.query_json.specs.declared.file.Version.TheVariants.{One}
use Rattle.query_json.specs.declared.fault.FileFault.{FileFault}
use Rattle.query_json.specs.declared.place.Site.TheVariants as site
use Rattle.query_json.specs.declared.place.Place.{Place}
use Rattle.query_json.specs.Walk.{as_list, as_name, as_whole, column_at, columns_at, each, file_at, is_name, item_count, join_at, joins_at, optional, place, query_at, relation_at, required, selectivity_at, table_at}
use Rattle.workload_gen.specs.declared.sample.Table.{Table}
use Rattle.workload_gen.specs.declared.sample.Relation.{Relation}
use Rattle.workload_gen.specs.declared.sample.Join.{Join}
use Rattle.workload_gen.specs.Sample.{Sample, SampleQuery}
use Rattle.workload_gen.specs.Values.{alias, column_name, join_value, join_value_by, query_name, query_value, relation_value, table_name, table_value, values, workload_value}
use Rattle.workload_gen.proofs.Names.{alias_named, query_named, table_named}
use Rattle.workload_gen.proofs.Valid.{Each, EachFrom, IsTable, IsRelation, IsJoin, IsQuery, IsSample}

-- what each part of a list gives, and its number
abbrev pub numbered : {A B : Type 0} → (ℕ → A → B) → ℕ → List A → List B
numbered f at [] = []
numbered f at (x ∷ xs) = f at x ∷ numbered f (at + 1) xs

abbrev pub column_item : ℕ → ColumnItem
column_item distinct = record { name = column_name; distinct = distinct }

abbrev pub table_item : ℕ → Table → TableItem
table_item t table = record { name = table_name t; rows = table.rows; columns = column_item table.distinct ∷ [] }

abbrev pub ratio : ℕ → ℕ → Ratio
ratio num den = record { num = num; den = den }

abbrev pub relation_item : ℕ → Relation → RelationItem
relation_item i relation = record { alias = alias i; table = table_name relation.table; filter = Some (ratio relation.kept 100) }

abbrev pub join_item_by : ℕ → ℕ → Option ℕ → JoinItem
join_item_by left right None = record {
  left = alias left;
  right = alias right;
  left_column = Some column_name;
  right_column = Some column_name;
  selectivity = None;
}
join_item_by left right (Some one_in) = record {
  left = alias left;
  right = alias right;
  left_column = None;
  right_column = None;
  selectivity = Some (ratio 1 one_in);
}

abbrev pub join_item : ℕ → Join → JoinItem
join_item k join = join_item_by join.left join.right join.one_in

abbrev pub query_item : ℕ → SampleQuery → QueryItem
query_item j query = record {
  name = query_name j;
  relations = numbered relation_item 0 query.relations;
  joins = numbered join_item 0 query.joins;
}

abbrev pub file_item : Sample → File
file_item sample = record { tables = numbered table_item 0 sample.tables; queries = numbered query_item 0 sample.queries }

-- ---- what stands at a site

required_ok : {X : Type 0} (f : Data → Option X) (p : Place) (d : Data) (x : X) → f d ≡ Some x → required f p (Some d) ≡ Ok x
required_ok f p d x e = rw e refl

name_ok : (p : Place) (s : List ℕ) → is_name s ≡ true → required as_name p (Some (string s)) ≡ Ok s
name_ok p s e = required_ok as_name p (string s) s (rw e refl)

whole_ok : (p : Place) (limit n : ℕ) → n ≤ limit → required (as_whole limit) p (Some (number (unsigned n))) ≡ Ok n
whole_ok p limit n h = required_ok (as_whole limit) p (number (unsigned n)) n (rw (le-leb n limit h) refl)

-- ---- the walk

table_read : (outer t : ℕ) (table : Table) → is_name (table_name t) ≡ true → IsTable table → table_at outer t (table_value t table) ≡ Ok (table_item t table)
unfolding table_at columns_at column_at table_value
table_read outer t table named h =
    rw (
      name_ok (place site.TableName t 0) (table_name t) named,
      whole_ok (place site.TableRows t 0) INPUT_CAP table.rows (omega (arith, h.rows)),
      whole_ok (place site.Distinct t 0) INPUT_CAP table.distinct (omega (arith, h.distinct)),
    ) refl

relation_read : (i j : ℕ) (relation : Relation) → is_name (alias j) ≡ true → is_name (table_name relation.table) ≡ true
    → relation_at One i j (relation_value j relation) ≡ Ok (relation_item j relation)
unfolding relation_at relation_value
relation_read i j relation named known =
    rw (name_ok (place site.Alias i j) (alias j) named, name_ok (place site.TableRef i j) (table_name relation.table) known) refl

join_read_by : (i k left right : ℕ) (one_in : Option ℕ) → is_name (alias left) ≡ true → is_name (alias right) ≡ true
    → join_at One i k (join_value_by left right one_in) ≡ Ok (join_item_by left right one_in)
unfolding join_at selectivity_at
join_read_by i k left right None l r =
    rw (name_ok (place site.Left i k) (alias left) l, name_ok (place site.Right i k) (alias right) r) refl
join_read_by i k left right (Some d) l r =
    rw (name_ok (place site.Left i k) (alias left) l, name_ok (place site.Right i k) (alias right) r) refl

-- ---- lists

-- a fact that holds of each part holds of it with its number, which is below n
pub numbered_below : {A : Type 0} (P : A → Type 0) (n at : ℕ) (xs : List A) → at + length xs ≤ n → Each P xs → EachFrom (λ k x. (k < n) × P x) at xs
numbered_below P n at [] fits h = tt
numbered_below P n at (x ∷ xs) fits h = ((omega arith, h.0), numbered_below P n (at + 1) xs (omega arith) h.1)

each_read : {A B : Type 0} (read : ℕ → Data → Result B FileFault) (value : ℕ → A → Data) (made : ℕ → A → B) (P : ℕ → A → Type 0)
    → ((k : ℕ) (x : A) → P k x → read k (value k x) ≡ Ok (made k x)) → (at : ℕ) (xs : List A) → EachFrom P at xs
    → each read at (values value at xs) ≡ Ok (numbered made at xs)
each_read read value made P reads at [] h = refl
each_read read value made P reads at (x ∷ xs) h = rw (reads at x h.0, each_read read value made P reads (at + 1) xs h.1) refl

item_count-values : {A : Type 0} (value : ℕ → A → Data) (at : ℕ) (xs : List A) → item_count (values value at xs) ≡ length xs
item_count-values value at [] = refl
item_count-values value at (x ∷ xs) = omega (arith, item_count-values value (at + 1) xs)

tables_read : (outer : ℕ) (tables : List Table) → length tables ≤ 8 → Each IsTable tables
    → each (table_at outer) 0 (values table_value 0 tables) ≡ Ok (numbered table_item 0 tables)
tables_read outer tables few h = each_read (table_at outer) table_value table_item (λ t table. (t < 8) × IsTable table)
    (λ t table is. table_read outer t table (table_named t is.0) is.1) 0 tables (numbered_below IsTable 8 0 tables (omega arith) h)

relations_read : (i : ℕ) (relations : List Relation) → length relations ≤ 12 → Each IsRelation relations
    → each (relation_at One i) 0 (values relation_value 0 relations) ≡ Ok (numbered relation_item 0 relations)
relations_read i relations few h = each_read (relation_at One i) relation_value relation_item (λ j relation. (j < 12) × IsRelation relation)
    (λ j relation is. relation_read i j relation (alias_named j is.0) (table_named relation.table is.1.table)) 0 relations (numbered_below IsRelation 12 0 relations (omega arith) h)

join_read : (i k n : ℕ) (join : Join) → n ≤ 12 → IsJoin n join → join_at One i k (join_value k join) ≡ Ok (join_item k join)
unfolding join_value
join_read i k n join few h = join_read_by i k join.left join.right join.one_in (alias_named join.left (omega (arith, h.left))) (alias_named join.right (omega (arith, h.right)))

joins_read : (i n : ℕ) (joins : List Join) → n ≤ 12 → length joins ≤ 14 → Each (IsJoin n) joins
    → each (join_at One i) 0 (values join_value 0 joins) ≡ Ok (numbered join_item 0 joins)
joins_read i n joins few short h = each_read (join_at One i) join_value join_item (λ k join. (k < 14) × IsJoin n join)
    (λ k join is. join_read i k n join few is.1) 0 joins (numbered_below (IsJoin n) 14 0 joins (omega arith) h)

query_read : (outer j : ℕ) (query : SampleQuery) → is_name (query_name j) ≡ true → IsQuery query → query_at One outer j (query_value j query) ≡ Ok (query_item j query)
unfolding query_at joins_at query_value
query_read outer j query named h =
    let few : nat_le (item_count (values join_value 0 query.joins)) PREDS_MAX ≡ true = le-leb _ PREDS_MAX (omega (arith, item_count-values join_value 0 query.joins, h.few_joins)) in
    let list : as_list PREDS_MAX (array (values join_value 0 query.joins)) ≡ Some (values join_value 0 query.joins) = rw few refl in
    let found : optional (as_list PREDS_MAX) (place site.Joins j 0) (Some (array (values join_value 0 query.joins))) ≡ Ok (Some (values join_value 0 query.joins)) = rw (list, optional) refl in
    rw (
      name_ok (place site.QueryName j 0) (query_name j) named,
      relations_read j query.relations h.few h.relations,
      found,
      joins_read j (length query.relations) query.joins h.few h.few_joins h.joins,
    ) refl

pub file_read : (sample : Sample) → IsSample sample → file_at (workload_value sample) ≡ Ok (file_item sample)
unfolding file_at workload_value
file_read sample h =
    let queries : each (query_at One 0) 0 (values query_value 0 sample.queries) ≡ Ok (numbered query_item 0 sample.queries) =
    each_read (query_at One 0) query_value query_item (λ j query. (j < 8) × IsQuery query)
    (λ j query is. query_read 0 j query (query_named j is.0) is.1) 0 sample.queries (numbered_below IsQuery 8 0 sample.queries (omega (arith, h.eight_queries)) h.queries) in
    rw (tables_read 0 sample.tables (omega (arith, h.eight_tables)) h.tables, queries) refl
