-- Rewriting a value that was rewritten changes nothing.
use Rattle.std.proofs.Common.{◌≡◌, ℕ, Option, Some, None, refl, ap, ap₂, ◌∙◌}
use Rattle.std.specs.Prelude.{codes, option_and_then, option_map}
use Rattle.serde_json.specs.Data.{Data, null, boolean, number, unsigned, negative, float, string, array, object, Items, no_items, item, no_members, put}
use Rattle.serde_json.specs.Find.{as_array, get}
use Rattle.query_json.specs.declared.file.Ratio.{Ratio}
use Rattle.query_json.specs.declared.file.Version.TheVariants.{Two}
use Rattle.query_json.specs.Walk.{as_ratio}
use Rattle.query_forms.specs.Forms.{count_in, each_item, fraction_in, list_in, rewritten_column, rewritten_file, rewritten_join, rewritten_query, rewritten_relation, rewritten_table, text_in, with_member}
use Rattle.query_forms.specs.Fractions.{decimal_places, fraction_data, fraction_or_pair}
use Rattle.query_forms.proofs.Decimals.{decimal_reads}
use Rattle.query_forms.proofs.Fields as field

-- a fraction reads as what it was written for
pub fraction_reads : (r : Ratio) → as_ratio Two (fraction_data r) ≡ Some r
unfolding fraction_data
fraction_reads r = by_places (decimal_places r) refl
  where
    by_places : (o : Option ℕ) → decimal_places r ≡ o → as_ratio Two (fraction_or_pair r o) ≡ Some r
    by_places None e = refl
    by_places (Some k) e = decimal_reads r k e

text_again : (m : Option Data) → text_in (text_in m) ≡ text_in m
text_again None = refl
text_again (Some null) = refl
text_again (Some (boolean b)) = refl
text_again (Some (number n)) = refl
text_again (Some (string s)) = refl
text_again (Some (array ds)) = refl
text_again (Some (object ms)) = refl

count_again : (m : Option Data) → count_in (count_in m) ≡ count_in m
count_again None = refl
count_again (Some null) = refl
count_again (Some (boolean b)) = refl
count_again (Some (number (unsigned n))) = refl
count_again (Some (number (negative z))) = refl
count_again (Some (number (float x))) = refl
count_again (Some (string s)) = refl
count_again (Some (array ds)) = refl
count_again (Some (object ms)) = refl

fraction_again : (m : Option Data) → fraction_in (fraction_in m) ≡ fraction_in m
fraction_again m = by_ratio (option_and_then (as_ratio Two) m)
  where
    by_ratio : (o : Option Ratio) → option_map fraction_data (option_and_then (as_ratio Two) (option_map fraction_data o)) ≡ option_map fraction_data o
    by_ratio None = refl
    by_ratio (Some r) = ap (option_map fraction_data) (fraction_reads r)

items_again : (f : Data → Data) → ((d : Data) → f (f d) ≡ f d) → (ds : Items) → each_item f (each_item f ds) ≡ each_item f ds
items_again f h no_items = refl
items_again f h (item d ds) = ap₂ item (h d) (items_again f h ds)

list_again : (f : Data → Data) → ((d : Data) → f (f d) ≡ f d) → (m : Option Data) → list_in f (list_in f m) ≡ list_in f m
list_again f h m = by_array (option_and_then as_array m)
  where
    by_array : (o : Option Items) → list_in f (option_map (λ ds. array (each_item f ds)) o) ≡ option_map (λ ds. array (each_item f ds)) o
    by_array None = refl
    by_array (Some ds) = ap (λ es. Some (array es)) (items_again f h ds)

abbrev column_with : Option Data → Option Data → Data
column_with a b = object (with_member (codes "distinct") a (with_member (codes "name") b no_members))

column_same : {a b a₁ b₁ : Option Data} → a₁ ≡ a → b₁ ≡ b → column_with a₁ b₁ ≡ column_with a b
column_same ea eb = rw (ea, eb) refl

pub column_again : (d : Data) → rewritten_column (rewritten_column d) ≡ rewritten_column d
unfolding rewritten_column
column_again d =
    column_same
    (ap count_in (field.column_distinct d) ∙ count_again (get (codes "distinct") d))
    (ap text_in (field.column_name d) ∙ text_again (get (codes "name") d))

abbrev table_with : Option Data → Option Data → Option Data → Data
table_with a b c = object (with_member (codes "rows") a (with_member (codes "name") b (with_member (codes "columns") c no_members)))

table_same : {a b c a₁ b₁ c₁ : Option Data} → a₁ ≡ a → b₁ ≡ b → c₁ ≡ c → table_with a₁ b₁ c₁ ≡ table_with a b c
table_same ea eb ec = rw (ea, eb, ec) refl

pub table_again : (d : Data) → rewritten_table (rewritten_table d) ≡ rewritten_table d
unfolding rewritten_table
table_again d =
    table_same
    (ap count_in (field.table_rows d) ∙ count_again (get (codes "rows") d))
    (ap text_in (field.table_name d) ∙ text_again (get (codes "name") d))
    (ap (list_in rewritten_column) (field.table_columns d) ∙ list_again rewritten_column column_again (get (codes "columns") d))

abbrev relation_with : Option Data → Option Data → Option Data → Data
relation_with a b c = object (with_member (codes "table") a (with_member (codes "filter") b (with_member (codes "alias") c no_members)))

relation_same : {a b c a₁ b₁ c₁ : Option Data} → a₁ ≡ a → b₁ ≡ b → c₁ ≡ c → relation_with a₁ b₁ c₁ ≡ relation_with a b c
relation_same ea eb ec = rw (ea, eb, ec) refl

pub relation_again : (d : Data) → rewritten_relation (rewritten_relation d) ≡ rewritten_relation d
unfolding rewritten_relation
relation_again d =
    relation_same
    (ap text_in (field.relation_table d) ∙ text_again (get (codes "table") d))
    (ap fraction_in (field.relation_filter d) ∙ fraction_again (get (codes "filter") d))
    (ap text_in (field.relation_alias d) ∙ text_again (get (codes "alias") d))

abbrev join_with : Option Data → Option Data → Option Data → Option Data → Option Data → Data
join_with a b c d e = object (with_member (codes "selectivity") a (with_member (codes "right_column") b (with_member (codes "right") c (with_member (codes "left_column") d (with_member (codes "left") e no_members)))))

join_same : {a b c d e a₁ b₁ c₁ d₁ e₁ : Option Data} → a₁ ≡ a → b₁ ≡ b → c₁ ≡ c → d₁ ≡ d → e₁ ≡ e → join_with a₁ b₁ c₁ d₁ e₁ ≡ join_with a b c d e
join_same ea eb ec ed ee = rw (ea, eb, ec, ed, ee) refl

pub join_again : (d : Data) → rewritten_join (rewritten_join d) ≡ rewritten_join d
unfolding rewritten_join
join_again d =
    join_same
    (ap fraction_in (field.join_selectivity d) ∙ fraction_again (get (codes "selectivity") d))
    (ap text_in (field.join_right_column d) ∙ text_again (get (codes "right_column") d))
    (ap text_in (field.join_right d) ∙ text_again (get (codes "right") d))
    (ap text_in (field.join_left_column d) ∙ text_again (get (codes "left_column") d))
    (ap text_in (field.join_left d) ∙ text_again (get (codes "left") d))

abbrev query_with : Option Data → Option Data → Option Data → Data
query_with a b c = object (with_member (codes "relations") a (with_member (codes "name") b (with_member (codes "joins") c no_members)))

query_same : {a b c a₁ b₁ c₁ : Option Data} → a₁ ≡ a → b₁ ≡ b → c₁ ≡ c → query_with a₁ b₁ c₁ ≡ query_with a b c
query_same ea eb ec = rw (ea, eb, ec) refl

pub query_again : (d : Data) → rewritten_query (rewritten_query d) ≡ rewritten_query d
unfolding rewritten_query
query_again d =
    query_same
    (ap (list_in rewritten_relation) (field.query_relations d) ∙ list_again rewritten_relation relation_again (get (codes "relations") d))
    (ap text_in (field.query_name d) ∙ text_again (get (codes "name") d))
    (ap (list_in rewritten_join) (field.query_joins d) ∙ list_again rewritten_join join_again (get (codes "joins") d))

abbrev file_with : Option Data → Option Data → Data
file_with a b = object (put (codes "version") (number (unsigned 2)) (with_member (codes "tables") a (with_member (codes "queries") b no_members)))

file_same : {a b a₁ b₁ : Option Data} → a₁ ≡ a → b₁ ≡ b → file_with a₁ b₁ ≡ file_with a b
file_same ea eb = rw (ea, eb) refl

pub file_again : (d : Data) → rewritten_file (rewritten_file d) ≡ rewritten_file d
unfolding rewritten_file
file_again d =
    file_same
    (ap (list_in rewritten_table) (field.file_tables d) ∙ list_again rewritten_table table_again (get (codes "tables") d))
    (ap (list_in rewritten_query) (field.file_queries d) ∙ list_again rewritten_query query_again (get (codes "queries") d))
