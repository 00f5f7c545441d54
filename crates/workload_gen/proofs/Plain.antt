-- A workload has no number with a point, so its text is the compact one.
use Rattle.std.proofs.Common.{◌≡◌, ℕ, ◌+◌, List, [], ◌∷◌, false, Option, Some, None, refl}
use Rattle.std.proofs.lemmas.Bool.{or_from}
use Rattle.serde_json.specs.Data.{Data}
use Rattle.serde_json.specs.Written.{has_float, items_have_float}
use Rattle.workload_gen.specs.declared.sample.Table.{Table}
use Rattle.workload_gen.specs.declared.sample.Relation.{Relation}
use Rattle.workload_gen.specs.declared.sample.Join.{Join}
use Rattle.workload_gen.specs.Sample.{Sample, SampleQuery}
use Rattle.workload_gen.specs.Values.{join_value, join_value_by, query_value, relation_value, table_value, values, workload_value}

all_plain : {A : Type 0} (value : ℕ → A → Data) → ((at : ℕ) (x : A) → has_float (value at x) ≡ false) → (at : ℕ) (xs : List A) → items_have_float (values value at xs) ≡ false
all_plain value plain at [] = refl
all_plain value plain at (x ∷ xs) = or_from _ _ (plain at x) (all_plain value plain (at + 1) xs)

table_is_plain : (t : ℕ) (table : Table) → has_float (table_value t table) ≡ false
unfolding table_value
table_is_plain t table = refl

relation_is_plain : (i : ℕ) (relation : Relation) → has_float (relation_value i relation) ≡ false
unfolding relation_value
relation_is_plain i relation = refl

join_is_plain_by : (left right : ℕ) (one_in : Option ℕ) → has_float (join_value_by left right one_in) ≡ false
join_is_plain_by left right None = refl
join_is_plain_by left right (Some n) = refl

join_is_plain : (k : ℕ) (join : Join) → has_float (join_value k join) ≡ false
unfolding join_value
join_is_plain k join = join_is_plain_by join.left join.right join.one_in

query_is_plain : (j : ℕ) (query : SampleQuery) → has_float (query_value j query) ≡ false
unfolding query_value
query_is_plain j query = rw (all_plain join_value join_is_plain 0 query.joins, all_plain relation_value relation_is_plain 0 query.relations) refl

pub workload_is_plain : (sample : Sample) → has_float (workload_value sample) ≡ false
unfolding workload_value
workload_is_plain sample = rw (all_plain query_value query_is_plain 0 sample.queries, all_plain table_value table_is_plain 0 sample.tables) refl
