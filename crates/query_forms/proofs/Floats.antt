-- A rewritten file has no number with a point or an exponent.
use Rattle.std.proofs.Common.{◌≡◌, ℕ, List, Bool, true, false, ◌||◌, Option, Some, None, refl}
use Rattle.std.specs.Prelude.{codes, option_map, option_and_then}
use Rattle.std.specs.Ordering.{nat_cmp, match_ordering}
use Rattle.std.proofs.Common.{Ordering, Less, Equal, Greater}
use Rattle.std.specs.Cmp.Lexicographic.{slice_cmp}
use Rattle.serde_json.specs.Data.{Data, number, unsigned, string, array, Items, no_items, item, Members, no_members, member, put}
use Rattle.serde_json.specs.Find.{get, as_array, as_number, as_str, as_u64}
use Rattle.serde_json.specs.Written.{has_float, items_have_float, members_have_float}
use Rattle.query_json.specs.declared.file.Ratio.{Ratio}
use Rattle.query_json.specs.declared.file.Version.TheVariants.{Two}
use Rattle.query_json.specs.Walk.{as_ratio}
use Rattle.query_forms.specs.Fractions.{decimal_places, fraction_data, fraction_or_pair}
use Rattle.query_forms.specs.Forms.{count_in, each_item, fraction_in, list_in, rewritten_column, rewritten_file, rewritten_join, rewritten_query, rewritten_relation, rewritten_table, text_in, with_member}

-- a value that is there has no float
abbrev IsWhole : Option Data → Type 0
IsWhole None = Unit {0}
IsWhole (Some d) = has_float d ≡ false

by_order : (o : Ordering) (a b c : Members) → members_have_float a ≡ false → members_have_float b ≡ false → members_have_float c ≡ false → members_have_float (match_ordering o a b c) ≡ false
by_order Less a b c p q r = p
by_order Equal a b c p q r = q
by_order Greater a b c p q r = r

both : (a b : Bool) → a ≡ false → b ≡ false → (a || b) ≡ false
both true b p q = p
both false b p q = q

left_of : (a b : Bool) → (a || b) ≡ false → a ≡ false
left_of true b e = e
left_of false b e = refl

right_of : (a b : Bool) → (a || b) ≡ false → b ≡ false
right_of true b e = absurd cc
right_of false b e = e

put_whole : (k : List ℕ) (d : Data) (ms : Members) → has_float d ≡ false → members_have_float ms ≡ false → members_have_float (put k d ms) ≡ false
put_whole k d no_members p q = both (has_float d) false p refl
put_whole k d (member l e ms) p q =
    let here = left_of (has_float e) (members_have_float ms) q in
    let later = right_of (has_float e) (members_have_float ms) q in
    by_order (slice_cmp nat_cmp k l) (member k d (member l e ms)) (member l d ms) (member l e (put k d ms))
    (both (has_float d) (has_float e || members_have_float ms) p q)
    (both (has_float d) (members_have_float ms) p later)
    (both (has_float e) (members_have_float (put k d ms)) here (put_whole k d ms p later))

with_whole : (k : List ℕ) (o : Option Data) (ms : Members) → IsWhole o → members_have_float ms ≡ false → members_have_float (with_member k o ms) ≡ false
with_whole k None ms p q = q
with_whole k (Some d) ms p q = put_whole k d ms p q

mapped_whole : {X : Type 0} (f : X → Data) (o : Option X) → ((x : X) → has_float (f x) ≡ false) → IsWhole (option_map f o)
mapped_whole f None h = tt
mapped_whole f (Some x) h = h x

text_whole : (m : Option Data) → IsWhole (text_in m)
text_whole m = mapped_whole string (option_and_then as_str m) (λ s. refl)

count_whole : (m : Option Data) → IsWhole (count_in m)
count_whole m = mapped_whole (λ n. number (unsigned n)) (option_and_then as_u64 (option_and_then as_number m)) (λ n. refl)

fraction_whole : (m : Option Data) → IsWhole (fraction_in m)
unfolding fraction_data
fraction_whole m = mapped_whole fraction_data (option_and_then (as_ratio Two) m) (λ r. by_places r (decimal_places r))
  where
    by_places : (r : Ratio) (o : Option ℕ) → has_float (fraction_or_pair r o) ≡ false
    by_places r None = refl
    by_places r (Some k) = refl

items_whole : (f : Data → Data) (ds : Items) → ((d : Data) → has_float (f d) ≡ false) → items_have_float (each_item f ds) ≡ false
items_whole f no_items h = refl
items_whole f (item d ds) h = both (has_float (f d)) (items_have_float (each_item f ds)) (h d) (items_whole f ds h)

list_whole : (f : Data → Data) (m : Option Data) → ((d : Data) → has_float (f d) ≡ false) → IsWhole (list_in f m)
list_whole f m h = mapped_whole (λ ds. array (each_item f ds)) (option_and_then as_array m) (λ ds. items_whole f ds h)

column_whole : (d : Data) → has_float (rewritten_column d) ≡ false
unfolding rewritten_column
column_whole d =
    with_whole (codes "distinct") _ _ (count_whole (get (codes "distinct") d))
    (with_whole (codes "name") _ no_members (text_whole (get (codes "name") d)) refl)

table_whole : (d : Data) → has_float (rewritten_table d) ≡ false
unfolding rewritten_table
table_whole d =
    with_whole (codes "rows") _ _ (count_whole (get (codes "rows") d))
    (with_whole (codes "name") _ _ (text_whole (get (codes "name") d))
    (with_whole (codes "columns") _ no_members (list_whole rewritten_column (get (codes "columns") d) column_whole) refl))

relation_whole : (d : Data) → has_float (rewritten_relation d) ≡ false
unfolding rewritten_relation
relation_whole d =
    with_whole (codes "table") _ _ (text_whole (get (codes "table") d))
    (with_whole (codes "filter") _ _ (fraction_whole (get (codes "filter") d))
    (with_whole (codes "alias") _ no_members (text_whole (get (codes "alias") d)) refl))

join_whole : (d : Data) → has_float (rewritten_join d) ≡ false
unfolding rewritten_join
join_whole d =
    with_whole (codes "selectivity") _ _ (fraction_whole (get (codes "selectivity") d))
    (with_whole (codes "right_column") _ _ (text_whole (get (codes "right_column") d))
    (with_whole (codes "right") _ _ (text_whole (get (codes "right") d))
    (with_whole (codes "left_column") _ _ (text_whole (get (codes "left_column") d))
    (with_whole (codes "left") _ no_members (text_whole (get (codes "left") d)) refl))))

query_whole : (d : Data) → has_float (rewritten_query d) ≡ false
unfolding rewritten_query
query_whole d =
    with_whole (codes "relations") _ _ (list_whole rewritten_relation (get (codes "relations") d) relation_whole)
    (with_whole (codes "name") _ _ (text_whole (get (codes "name") d))
    (with_whole (codes "joins") _ no_members (list_whole rewritten_join (get (codes "joins") d) join_whole) refl))

pub file_whole : (d : Data) → has_float (rewritten_file d) ≡ false
unfolding rewritten_file
file_whole d =
    let queries : Members = with_member (codes "queries") (list_in rewritten_query (get (codes "queries") d)) no_members in
    let tables : Members = with_member (codes "tables") (list_in rewritten_table (get (codes "tables") d)) queries in
    put_whole (codes "version") (number (unsigned 2)) tables refl
    (with_whole (codes "tables") (list_in rewritten_table (get (codes "tables") d)) queries (list_whole rewritten_table (get (codes "tables") d) table_whole)
    (with_whole (codes "queries") (list_in rewritten_query (get (codes "queries") d)) no_members (list_whole rewritten_query (get (codes "queries") d) query_whole) refl))
