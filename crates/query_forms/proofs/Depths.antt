-- A rewritten file nests six levels deep at most.
use Rattle.std.proofs.Common.{ℕ, suc, ◌≤◌, List, Option, Some, None, Ordering, Less, Equal, Greater, arith}
use Rattle.std.specs.Prelude.{codes, option_map, option_and_then}
use Rattle.std.specs.Ordering.{nat_cmp, match_ordering}
use Rattle.std.specs.Cmp.Lexicographic.{slice_cmp}
use Rattle.serde_json.specs.Data.{Data, number, unsigned, string, array, object, Items, no_items, item, Members, no_members, member, put, depth, items_depth, members_depth}
use Rattle.serde_json.specs.Find.{get, as_array, as_number, as_str, as_u64}
use Rattle.query_json.specs.declared.file.Ratio.{Ratio}
use Rattle.query_json.specs.declared.file.Version.TheVariants.{Two}
use Rattle.query_json.specs.Walk.{as_ratio}
use Rattle.query_forms.specs.Fractions.{decimal_places, fraction_data, fraction_or_pair}
use Rattle.query_forms.specs.Forms.{count_in, each_item, fraction_in, list_in, rewritten_column, rewritten_file, rewritten_join, rewritten_query, rewritten_relation, rewritten_table, text_in, with_member}

-- a value that is there nests no deeper than n
abbrev IsShallow : ℕ → Option Data → Type 0
IsShallow n None = Unit {0}
IsShallow n (Some d) = depth d ≤ n

by_order : (n : ℕ) (o : Ordering) (a b c : Members) → members_depth a ≤ n → members_depth b ≤ n → members_depth c ≤ n
    → members_depth (match_ordering o a b c) ≤ n
by_order n Less a b c p q r = p
by_order n Equal a b c p q r = q
by_order n Greater a b c p q r = r

put_shallow : (n : ℕ) (k : List ℕ) (d : Data) (ms : Members) → depth d ≤ n → members_depth ms ≤ n → members_depth (put k d ms) ≤ n
put_shallow n k d no_members p q = omega (arith, p)
put_shallow n k d (member l e ms) p q =
    let rest = put_shallow n k d ms p (omega (arith, q)) in
    by_order n (slice_cmp nat_cmp k l) (member k d (member l e ms)) (member l d ms) (member l e (put k d ms))
    (omega (arith, p, q)) (omega (arith, p, q)) (omega (arith, rest, q))

with_shallow : (n : ℕ) (k : List ℕ) (o : Option Data) (ms : Members) → IsShallow n o → members_depth ms ≤ n → members_depth (with_member k o ms) ≤ n
with_shallow n k None ms p q = q
with_shallow n k (Some d) ms p q = put_shallow n k d ms p q

mapped_shallow : {X : Type 0} (n : ℕ) (f : X → Data) (o : Option X) → ((x : X) → depth (f x) ≤ n) → IsShallow n (option_map f o)
mapped_shallow n f None h = tt
mapped_shallow n f (Some x) h = h x

none : (n : ℕ) → members_depth no_members ≤ n
none n = omega arith

text_shallow : (n : ℕ) (m : Option Data) → IsShallow n (text_in m)
text_shallow n m = mapped_shallow n string (option_and_then as_str m) (λ s. omega arith)

count_shallow : (n : ℕ) (m : Option Data) → IsShallow n (count_in m)
count_shallow n m = mapped_shallow n (λ k. number (unsigned k)) (option_and_then as_u64 (option_and_then as_number m)) (λ k. omega arith)

fraction_shallow : (m : Option Data) → IsShallow 1 (fraction_in m)
unfolding fraction_data
fraction_shallow m = mapped_shallow 1 fraction_data (option_and_then (as_ratio Two) m) (λ r. by_places r (decimal_places r))
  where
    by_places : (r : Ratio) (o : Option ℕ) → depth (fraction_or_pair r o) ≤ 1
    by_places r None = omega arith
    by_places r (Some k) = omega arith

items_shallow : (n : ℕ) (f : Data → Data) (ds : Items) → ((d : Data) → depth (f d) ≤ n) → items_depth (each_item f ds) ≤ n
items_shallow n f no_items h = omega arith
items_shallow n f (item d ds) h = let here = h d in let rest = items_shallow n f ds h in omega (arith, here, rest)

list_shallow : (n : ℕ) (f : Data → Data) (m : Option Data) → ((d : Data) → depth (f d) ≤ n) → IsShallow (suc n) (list_in f m)
list_shallow n f m h =
    mapped_shallow (suc n) (λ ds. array (each_item f ds)) (option_and_then as_array m) (λ ds. let all = items_shallow n f ds h in omega (arith, all))

object_of : (n : ℕ) (ms : Members) → members_depth ms ≤ n → depth (object ms) ≤ suc n
object_of n ms h = omega (arith, h)

column_shallow : (d : Data) → depth (rewritten_column d) ≤ 1
unfolding rewritten_column
column_shallow d =
    object_of 0 _
    (with_shallow 0 (codes "distinct") _ _ (count_shallow 0 (get (codes "distinct") d))
    (with_shallow 0 (codes "name") _ no_members (text_shallow 0 (get (codes "name") d)) (none 0)))

table_shallow : (d : Data) → depth (rewritten_table d) ≤ 3
unfolding rewritten_table
table_shallow d =
    object_of 2 _
    (with_shallow 2 (codes "rows") _ _ (count_shallow 2 (get (codes "rows") d))
    (with_shallow 2 (codes "name") _ _ (text_shallow 2 (get (codes "name") d))
    (with_shallow 2 (codes "columns") _ no_members (list_shallow 1 rewritten_column (get (codes "columns") d) column_shallow) (none 2))))

relation_shallow : (d : Data) → depth (rewritten_relation d) ≤ 2
unfolding rewritten_relation
relation_shallow d =
    object_of 1 _
    (with_shallow 1 (codes "table") _ _ (text_shallow 1 (get (codes "table") d))
    (with_shallow 1 (codes "filter") _ _ (fraction_shallow (get (codes "filter") d))
    (with_shallow 1 (codes "alias") _ no_members (text_shallow 1 (get (codes "alias") d)) (none 1))))

join_shallow : (d : Data) → depth (rewritten_join d) ≤ 2
unfolding rewritten_join
join_shallow d =
    object_of 1 _
    (with_shallow 1 (codes "selectivity") _ _ (fraction_shallow (get (codes "selectivity") d))
    (with_shallow 1 (codes "right_column") _ _ (text_shallow 1 (get (codes "right_column") d))
    (with_shallow 1 (codes "right") _ _ (text_shallow 1 (get (codes "right") d))
    (with_shallow 1 (codes "left_column") _ _ (text_shallow 1 (get (codes "left_column") d))
    (with_shallow 1 (codes "left") _ no_members (text_shallow 1 (get (codes "left") d)) (none 1))))))

query_shallow : (d : Data) → depth (rewritten_query d) ≤ 4
unfolding rewritten_query
query_shallow d =
    object_of 3 _
    (with_shallow 3 (codes "relations") _ _ (list_shallow 2 rewritten_relation (get (codes "relations") d) relation_shallow)
    (with_shallow 3 (codes "name") _ _ (text_shallow 3 (get (codes "name") d))
    (with_shallow 3 (codes "joins") _ no_members (list_shallow 2 rewritten_join (get (codes "joins") d) join_shallow) (none 3))))

pub file_shallow : (d : Data) → depth (rewritten_file d) ≤ 6
unfolding rewritten_file
file_shallow d =
    let queries : Members = with_member (codes "queries") (list_in rewritten_query (get (codes "queries") d)) no_members in
    let tables : Members = with_member (codes "tables") (list_in rewritten_table (get (codes "tables") d)) queries in
    let deep : members_depth queries ≤ 5 =
    with_shallow 5 (codes "queries") (list_in rewritten_query (get (codes "queries") d)) no_members
    (list_shallow 4 rewritten_query (get (codes "queries") d) query_shallow) (none 5) in
    object_of 5 (put (codes "version") (number (unsigned 2)) tables)
    (put_shallow 5 (codes "version") (number (unsigned 2)) tables (omega arith)
    (with_shallow 5 (codes "tables") (list_in rewritten_table (get (codes "tables") d)) queries
    (list_shallow 4 rewritten_table (get (codes "tables") d) (λ t. let three = table_shallow t in omega (arith, three))) deep))
