-- What each object of a workload file is in version 2: its members of the format that are there, and no others.
use Rattle.std.specs.Prelude.{ℕ, List, codes, Option, Some, None, option_and_then, option_map}
use Rattle.serde_json.specs.Data.{Data, number, unsigned, string, array, object, Items, no_items, item, Members, no_members, put}
use Rattle.serde_json.specs.Find.{get, as_array, as_number, as_str, as_u64}
use Rattle.query_json.specs.declared.file.Version.TheVariants.{Two}
use Rattle.query_json.specs.Walk.{as_ratio}
use Rattle.query_forms.specs.Fractions.{fraction_data}

-- the members with one more, where it is there
abbrev pub with_member : List ℕ → Option Data → Members → Members
with_member key None members = members
with_member key (Some d) members = put key d members

-- ---- what stands at a member: nothing where it is absent, null or of another kind

abbrev pub text_in : Option Data → Option Data
text_in member = option_map string (option_and_then as_str member)

abbrev pub count_in : Option Data → Option Data
count_in member = option_map (λ n. number (unsigned n)) (option_and_then as_u64 (option_and_then as_number member))

abbrev pub fraction_in : Option Data → Option Data
fraction_in member = option_map fraction_data (option_and_then (as_ratio Two) member)

abbrev pub each_item : (Data → Data) → Items → Items
each_item f no_items = no_items
each_item f (item d ds) = item (f d) (each_item f ds)

abbrev pub list_in : (Data → Data) → Option Data → Option Data
list_in f member = option_map (λ ds. array (each_item f ds)) (option_and_then as_array member)

-- ---- the objects

unfoldable pub rewritten_column : Data → Data
rewritten_column d =
    object (with_member (codes "distinct") (count_in (get (codes "distinct") d))
    (with_member (codes "name") (text_in (get (codes "name") d)) no_members))

unfoldable pub rewritten_table : Data → Data
rewritten_table d =
    object (with_member (codes "rows") (count_in (get (codes "rows") d))
    (with_member (codes "name") (text_in (get (codes "name") d))
    (with_member (codes "columns") (list_in rewritten_column (get (codes "columns") d)) no_members)))

unfoldable pub rewritten_relation : Data → Data
rewritten_relation d =
    object (with_member (codes "table") (text_in (get (codes "table") d))
    (with_member (codes "filter") (fraction_in (get (codes "filter") d))
    (with_member (codes "alias") (text_in (get (codes "alias") d)) no_members)))

unfoldable pub rewritten_join : Data → Data
rewritten_join d =
    object (with_member (codes "selectivity") (fraction_in (get (codes "selectivity") d))
    (with_member (codes "right_column") (text_in (get (codes "right_column") d))
    (with_member (codes "right") (text_in (get (codes "right") d))
    (with_member (codes "left_column") (text_in (get (codes "left_column") d))
    (with_member (codes "left") (text_in (get (codes "left") d)) no_members)))))

unfoldable pub rewritten_query : Data → Data
rewritten_query d =
    object (with_member (codes "relations") (list_in rewritten_relation (get (codes "relations") d))
    (with_member (codes "name") (text_in (get (codes "name") d))
    (with_member (codes "joins") (list_in rewritten_join (get (codes "joins") d)) no_members)))

unfoldable pub rewritten_file : Data → Data
rewritten_file d =
    object (put (codes "version") (number (unsigned 2))
    (with_member (codes "tables") (list_in rewritten_table (get (codes "tables") d))
    (with_member (codes "queries") (list_in rewritten_query (get (codes "queries") d)) no_members)))
