-- The bytes of a sample have no fault, and its eight queries are accepted.
use Rattle.std.proofs.Common.{◌≡◌, ◌∙◌, ℕ, suc, ◌+◌, ◌≤◌, false, List, [], ◌∷◌, ◌++◌, length, map, All, IfOk, Vec, Global, Option, Some, None, Result, Ok, Err, refl, sym, ap, subst, arith, lit≤}
use Rattle.std.proofs.Math.Dec.{eqb}
use Rattle.std.proofs.Math.Nat.{max-le}
use Rattle.std.proofs.lemmas.Bool.{le-ltb}
use Rattle.std.proofs.lemmas.Bool.Decides.{nat_tests}
use Rattle.serde_json.specs.Data.{Data, depth, items_depth}
use Rattle.dpe_base.specs.declared.TheConstants.{N_MAX}
use Rattle.dpe_base.specs.Queries.{JoinQuery}
use Rattle.std.proofs.lemmas.List.Elements.{All-cons, All-nil}
use Rattle.std.proofs.lemmas.List.{length-map}
use Rattle.query_json.specs.declared.TheConstants.{QUERIES_MAX, TABLES_MAX}
use Rattle.query_json.specs.declared.file.File.{File}
use Rattle.query_json.specs.declared.entry.Named.{Named}
use Rattle.query_json.specs.declared.file.RelationItem.{RelationItem}
use Rattle.query_json.specs.Entries.{counted, entries_of, entries_of_value, entry_of}
use Rattle.query_json.specs.Queries.{apart, checked, ends_of, most_distinct, named_of, pred_of, query_of, rel_of, sized, table_of}
use Rattle.query_json.specs.Queries.Unreached.{first_unreached}
use Rattle.query_json.specs.Walk.{file_at, json_at, json_of}
use Rattle.workload_gen.specs.declared.sample.Table.{Table}
use Rattle.workload_gen.specs.declared.sample.Relation.{Relation}
use Rattle.workload_gen.specs.declared.sample.Join.{Join}
use Rattle.workload_gen.specs.Accepted.{HoldsEightQueries, IsAccepted}
use Rattle.workload_gen.specs.Draws.{sample_of, seeded}
use Rattle.workload_gen.specs.Sample.{Sample, SampleQuery}
use Rattle.workload_gen.specs.Values.{alias, join_value, join_value_by, query_value, relation_value, table_name, table_value, values, workload_of, workload_value}
use Rattle.workload_gen.proofs.Accepted.{Both, all_numbered, alias_naming, apart_by, both_length, checked_numbered, distinct_by, each_numbered, ends_by, pred_by, rel_ok, table_naming, table_of_ok}
use Rattle.workload_gen.proofs.Connected.{IsPredOf, all_reached}
use Rattle.workload_gen.proofs.FileOf.{file_item, file_read, join_item, numbered, query_item, relation_item, table_item}
use Rattle.workload_gen.proofs.Found.{distinct}
use Rattle.serde_json.specs.Written.{compact_text}
use Rattle.query_json.proofs.ReadBack.{json_of-compact_text}
use Rattle.workload_gen.proofs.ReadBack.{workload_back}
use Rattle.workload_gen.proofs.Valid.{Each, IsJoin, IsQuery, IsRelation, IsSample, IsTable, sample_is}

numbered_length : {A B : Type 0} (f : ℕ → A → B) (at : ℕ) (xs : List A) → length (numbered f at xs) ≡ length xs
numbered_length f at [] = refl
numbered_length f at (x ∷ xs) = ap suc (numbered_length f (at + 1) xs)

sized_ok : (rs : List RelationItem) → 2 ≤ length rs → length rs ≤ 12 → sized rs ≡ Ok tt
sized_ok rs some few = let fits = le-ltb N_MAX (length rs) (omega arith) in let there : eqb (length rs) 0 ≡ false = grind (arith, nat_tests) in rw (there, fits) refl

-- ---- one query

query_ok : (tables : List Table) → length tables ≡ 8 → Each IsTable tables → (j : ℕ) (query : SampleQuery) → IsQuery query
    → (named : Named) × (named_of (numbered table_item 0 tables) (query_item j query) ≡ Ok named)
unfolding named_of query_of
query_ok tables eight each j query h =
    let ts = numbered table_item 0 tables in
    let rs = numbered relation_item 0 query.relations in
    let js = numbered join_item 0 query.joins in
    let n = length query.relations in
    let size : sized rs ≡ Ok tt = sized_ok rs (rw (numbered_length relation_item 0 query.relations) h.some) (rw (numbered_length relation_item 0 query.relations) h.few) in
    let names = distinct 12 alias (λ r. r.alias) relation_item alias_naming query.relations h.few in
    let tables_known = each_numbered (table_of ts) relation_item IsRelation (table_of_ok tables eight each) query.relations h.relations in
    let aliases_known = each_numbered (ends_of rs) join_item (IsJoin n)
    (λ k join is. (record { left = join.left; right = join.right }, ends_by query.relations h.few join.left join.right join.one_in is.left is.right)) query.joins h.joins in
    let columns_known = each_numbered (most_distinct ts rs) join_item (IsJoin n)
    (λ k join is. distinct_by tables eight each query.relations h.few h.relations join.left join.right join.one_in is.left is.right) query.joins h.joins in
    let two_ends : checked apart js ≡ Ok tt = checked_numbered apart join_item (IsJoin n)
    (λ k join is. (tt, apart_by join.left join.right join.one_in (let l = is.left in let f = h.few in omega arith) (let r = is.right in let f = h.few in omega arith) is.apart)) 0 query.joins h.joins in
    let rels = all_numbered (rel_of ts) relation_item IsRelation (λ x y. Unit {0}) (rel_ok tables eight each) 0 query.relations h.relations in
    let preds = all_numbered (pred_of ts rs) join_item (IsJoin n) IsPredOf
    (λ at k join is. pred_by tables eight each query.relations h.few h.relations at join.left join.right join.one_in is.left is.right is.one_in) 0 query.joins h.joins in
    let q : JoinQuery = record { rels = rels.0; preds = preds.0 } in
    let as_parts : Both IsPredOf (h.tree ++ h.extra) preds.0 = subst (λ joins. Both IsPredOf joins preds.0) h.parts preds.2 in
    let connected : first_unreached q ≡ None = all_reached q h.tree h.extra h.tree_joins as_parts (both_length (λ x y. Unit {0}) query.relations rels.0 rels.2 ∙ sym h.tree_size) in (
      record { query = q; aliases = map (λ r. r.alias) rs },
      rw (size, names.1, tables_known.1, aliases_known.1, columns_known.1, two_ends, rels.1, preds.1, connected) refl,
    )

-- ---- the entries

queries_ok : (tables : List Table) → length tables ≡ 8 → Each IsTable tables → (at : ℕ) (queries : List SampleQuery) → Each IsQuery queries
    → All (λ e. IsAccepted e.part) (map (entry_of (numbered table_item 0 tables)) (numbered query_item at queries))
unfolding entry_of
queries_ok tables eight each at [] h = All-nil (λ e. IsAccepted e.part)
queries_ok tables eight each at (q ∷ qs) h =
    let known = query_ok tables eight each at q h.0 in
    All-cons (λ e. IsAccepted e.part) _ _ (rw known.1 tt) (queries_ok tables eight each (at + 1) qs h.1)

few_parts : (file : File) → length file.tables ≤ 8 → length file.queries ≤ 8 → counted file ≡ Ok tt
few_parts file t q = rw (le-ltb TABLES_MAX (length file.tables) (omega arith), le-ltb QUERIES_MAX (length file.queries) (omega arith)) refl

value_ok : (sample : Sample) → IsSample sample → HoldsEightQueries (entries_of_value (workload_value sample))
unfolding entries_of_value
value_ok sample h =
    let found : file_at (workload_value sample) ≡ Ok (file_item sample) = file_read sample h in
    let few : counted (file_item sample) ≡ Ok tt = few_parts (file_item sample)
    (omega (arith, numbered_length table_item 0 sample.tables, h.eight_tables)) (omega (arith, numbered_length query_item 0 sample.queries, h.eight_queries)) in
    let names = distinct 8 table_name (λ t. t.name) table_item table_naming sample.tables (omega (arith, h.eight_tables)) in
    let size : length (map (entry_of (numbered table_item 0 sample.tables)) (numbered query_item 0 sample.queries)) ≡ 8 =
    length-map (numbered query_item 0 sample.queries) (entry_of (numbered table_item 0 sample.tables)) ∙ numbered_length query_item 0 sample.queries ∙ h.eight_queries in
    rw (found, few, names.1) (size, queries_ok sample.tables h.eight_tables h.tables 0 sample.queries h.queries)

-- ---- the bytes

shallow : {A : Type 0} (value : ℕ → A → Data) (m : ℕ) → ((at : ℕ) (x : A) → depth (value at x) ≤ m) → (at : ℕ) (xs : List A) → items_depth (values value at xs) ≤ m
shallow value m each at [] = omega arith
shallow value m each at (x ∷ xs) = max-le (each at x) (shallow value m each (at + 1) xs)

table_depth : (t : ℕ) (table : Table) → depth (table_value t table) ≤ 3
unfolding table_value
table_depth t table = lit≤ tt

relation_depth : (i : ℕ) (relation : Relation) → depth (relation_value i relation) ≤ 2
unfolding relation_value
relation_depth i relation = lit≤ tt

join_depth_by : (left right : ℕ) (one_in : Option ℕ) → depth (join_value_by left right one_in) ≤ 2
join_depth_by left right None = lit≤ tt
join_depth_by left right (Some d) = lit≤ tt

join_depth : (k : ℕ) (join : Join) → depth (join_value k join) ≤ 2
unfolding join_value
join_depth k join = join_depth_by join.left join.right join.one_in

query_depth : (j : ℕ) (query : SampleQuery) → depth (query_value j query) ≤ 4
unfolding query_value
query_depth j query =
    let joins = shallow join_value 2 join_depth 0 query.joins in
    let relations = shallow relation_value 2 relation_depth 0 query.relations in
    omega arith

workload_depth : (sample : Sample) → depth (workload_value sample) ≤ 6
unfolding workload_value
workload_depth sample =
    let queries = shallow query_value 4 query_depth 0 sample.queries in
    let tables = shallow table_value 3 table_depth 0 sample.tables in
    omega arith

-- the sample of each number is read from its text
pub every_sample : (number : ℕ) → HoldsEightQueries (entries_of (workload_of number))
unfolding entries_of json_at sample_of workload_of
every_sample number =
    let sample = sample_of number in
    let valid : IsSample sample = sample_is (seeded number) in
    let reads : json_of (compact_text (workload_value sample)) ≡ Some (workload_value sample) =
    json_of-compact_text (workload_value sample) (workload_back sample valid) (let deep = workload_depth sample in omega arith) in
    rw reads (value_ok sample valid)

-- so is the sample that is written
pub accepted : {E : Type 0} (number : ℕ) (r : Result (Vec ℕ Global) E) → IfOk r (λ b. b.items ≡ workload_of number)
    → IfOk r (λ b. HoldsEightQueries (entries_of b.items))
accepted number (Ok b) text = subst (λ bytes. HoldsEightQueries (entries_of bytes)) (sym text) (every_sample number)
accepted number (Err e) text = tt
