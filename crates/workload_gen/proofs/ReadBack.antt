-- The text of a sample's value is read as that value.
use Rattle.std.proofs.Common.{◌<◌, ◌≤◌, ℕ, ◌≡◌, ◌+◌, List, [], ◌∷◌, Bool, true, Option, Some, None, IsUtf8, length, refl, arith, lit≤}
use Rattle.std.specs.Prelude.{codes, decimal}
use Rattle.std.specs.List.{list_all}
use Rattle.std.specs.Prelude.{nat_lt}
use Rattle.std.specs.Str.{IsAscii}
use Rattle.std.proofs.lemmas.Bool.{and_parts, ltb-true}
use Rattle.std.proofs.lemmas.Str.{IsUtf8-append, IsUtf8-from_ascii}
use Rattle.std.proofs.lemmas.Str.Ascii.{IsAscii-cons, IsAscii-nil}
use Rattle.serde_json.specs.Data.{Data}
use Rattle.query_json.proofs.ReadBack.{AreReadBack, IsReadBack, decimal_utf8}
use Rattle.workload_gen.specs.declared.sample.Table.{Table}
use Rattle.workload_gen.specs.declared.sample.Relation.{Relation}
use Rattle.workload_gen.specs.declared.sample.Join.{Join}
use Rattle.workload_gen.specs.Sample.{Sample, SampleQuery}
use Rattle.workload_gen.specs.Values.{alias, column_name, join_value, join_value_by, query_name, query_value, relation_value, table_name, table_value, values, workload_value}
use Rattle.workload_gen.proofs.FileOf.{numbered_below}
use Rattle.workload_gen.proofs.Valid.{EachFrom, IsJoin, IsOneIn, IsQuery, IsRelation, IsSample, IsTable}

abbrev are_ascii : List ℕ → Bool
are_ascii s = list_all (λ b. nat_lt b 128) s

IsAscii-are_ascii : (s : List ℕ) → are_ascii s ≡ true → IsAscii s
IsAscii-are_ascii [] e = IsAscii-nil
IsAscii-are_ascii (b ∷ bs) e = let p = and_parts _ _ e in IsAscii-cons b bs (ltb-true b 128 p.0) (IsAscii-are_ascii bs p.1)

text : (s : List ℕ) → are_ascii s ≡ true → IsUtf8 s
text s e = IsUtf8-from_ascii s (IsAscii-are_ascii s e)

table_utf8 : (t : ℕ) → t < 8 → IsUtf8 (table_name t)
table_utf8 t few = IsUtf8-append (codes "t") (decimal t) (text (codes "t") refl) (decimal_utf8 t (omega (arith, few)))

query_utf8 : (j : ℕ) → j < 8 → IsUtf8 (query_name j)
query_utf8 j few = IsUtf8-append (codes "q") (decimal j) (text (codes "q") refl) (decimal_utf8 j (omega (arith, few)))

alias_utf8 : (i : ℕ) → i < 12 → IsUtf8 (alias i)
alias_utf8 i few = IsUtf8-append (codes "r") (decimal i) (text (codes "r") refl) (decimal_utf8 i (omega (arith, few)))

all_back : {A : Type 0} (value : ℕ → A → Data) (P : ℕ → A → Type 0) → ((k : ℕ) (x : A) → P k x → IsReadBack (value k x))
    → (at : ℕ) (xs : List A) → EachFrom P at xs → AreReadBack (values value at xs)
all_back value P back at [] h = tt
all_back value P back at (x ∷ xs) h = (back at x h.0, all_back value P back (at + 1) xs h.1)

table_back : (t : ℕ) (table : Table) → t < 8 → IsTable table → IsReadBack (table_value t table)
unfolding table_value
table_back t table few h = (
  text (codes "columns") refl,
  refl,
  ((text (codes "distinct") refl, refl, omega (arith, h.distinct), (text (codes "name") refl, refl, text column_name refl, tt)), tt),
  (text (codes "name") refl, refl, table_utf8 t few, (text (codes "rows") refl, refl, omega (arith, h.rows), tt)),
)

relation_back : (i : ℕ) (relation : Relation) → i < 12 → IsRelation relation → IsReadBack (relation_value i relation)
unfolding relation_value
relation_back i relation few h = (
  text (codes "alias") refl,
  refl,
  alias_utf8 i few,
  (
    text (codes "filter") refl,
    refl,
    (omega (arith, h.kept), (lit≤ tt, tt)),
    (text (codes "table") refl, refl, table_utf8 relation.table h.table, tt),
  ),
)

join_back_by : (left right : ℕ) (one_in : Option ℕ) → left < 12 → right < 12 → IsOneIn one_in
    → IsReadBack (join_value_by left right one_in)
join_back_by left right None l r is = (
  text (codes "left") refl,
  refl,
  alias_utf8 left l,
  (
    text (codes "left_column") refl,
    refl,
    text column_name refl,
    (text (codes "right") refl, refl, alias_utf8 right r, (text (codes "right_column") refl, refl, text column_name refl, tt)),
  ),
)
join_back_by left right (Some d) l r is = (
  text (codes "left") refl,
  refl,
  alias_utf8 left l,
  (
    text (codes "right") refl,
    refl,
    alias_utf8 right r,
    (text (codes "selectivity") refl, refl, (lit≤ tt, (omega (arith, is.1), tt)), tt),
  ),
)

join_back : (n k : ℕ) (join : Join) → n ≤ 12 → IsJoin n join → IsReadBack (join_value k join)
unfolding join_value
join_back n k join few h = join_back_by join.left join.right join.one_in (omega (arith, h.left)) (omega (arith, h.right)) h.one_in

query_back : (j : ℕ) (query : SampleQuery) → j < 8 → IsQuery query → IsReadBack (query_value j query)
unfolding query_value
query_back j query few h = (
  text (codes "joins") refl,
  refl,
  all_back join_value (λ k join. (k < 14) × IsJoin (length query.relations) join)
      (λ k join is. join_back (length query.relations) k join h.few is.1) 0 query.joins
      (numbered_below (IsJoin (length query.relations)) 14 0 query.joins (omega (arith, h.few_joins)) h.joins),
  (
    text (codes "name") refl,
    refl,
    query_utf8 j few,
    (
      text (codes "relations") refl,
      refl,
      all_back relation_value (λ i relation. (i < 12) × IsRelation relation)
          (λ i relation is. relation_back i relation is.0 is.1) 0 query.relations
          (numbered_below IsRelation 12 0 query.relations (omega (arith, h.few)) h.relations),
      tt,
    ),
  ),
)

pub workload_back : (sample : Sample) → IsSample sample → IsReadBack (workload_value sample)
unfolding workload_value
workload_back sample h = (
  text (codes "queries") refl,
  refl,
  all_back query_value (λ j query. (j < 8) × IsQuery query) (λ j query is. query_back j query is.0 is.1) 0 sample.queries
      (numbered_below IsQuery 8 0 sample.queries (omega (arith, h.eight_queries)) h.queries),
  (
    text (codes "tables") refl,
    refl,
    all_back table_value (λ t table. (t < 8) × IsTable table) (λ t table is. table_back t table is.0 is.1) 0 sample.tables
        (numbered_below IsTable 8 0 sample.tables (omega (arith, h.eight_tables)) h.tables),
    tt,
  ),
)
