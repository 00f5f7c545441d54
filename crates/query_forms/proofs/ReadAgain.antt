-- The text of a rewritten file reads as the file, where it was read from a UTF-8 text.
use Rattle.std.proofs.Common.{◌≡◌, ◌∙◌, ℕ, ◌<◌, ◌≤◌, ◌^◌, ◌&&◌, ◌||◌, ◌==◌, List, [], ◌∷◌, length, Bool, true, false, cond, nat_le, Option, Some, None, IsUtf8, Ordering, Less, Equal, Greater, inl, inr, refl, sym, ap, subst, arith}
use Rattle.std.specs.Prelude.{⊤, codes, option_and_then, option_map}
use Rattle.std.specs.Ordering.{nat_cmp, match_ordering}
use Rattle.std.specs.Cmp.Lexicographic.{slice_cmp}
use Rattle.std.specs.List.{list_all}
use Rattle.std.specs.Char.{is_ascii_digit}
use Rattle.std.specs.Str.Parse.{digits_value}
use Rattle.std.proofs.Math.Nat.{pow-le-pow_right}
use Rattle.std.proofs.lemmas.Bool.{and_parts, or_cases, eqb-true, leb-true, lt-ltb}
use Rattle.std.proofs.lemmas.Str.Parse.{digits_value_short, numerals_by_value, tells_all_ascii_digits}
use Rattle.serde_json.specs.Data.{Data, null, boolean, number, unsigned, negative, float, string, array, object, Items, no_items, item, Members, no_members, member, put}
use Rattle.serde_json.specs.Find.{as_number, as_u64, get, get_member}
use Rattle.query_json.specs.declared.TheConstants.{DECIMALS_MAX}
use Rattle.query_json.specs.declared.file.Ratio.{Ratio}
use Rattle.query_json.specs.declared.file.Version.TheVariants.{Two}
use Rattle.query_json.specs.Decimals.{are_decimals, decimal_from, decimal_of, over_tens}
use Rattle.query_json.specs.Walk.{as_pair, as_ratio}
use Rattle.query_json.proofs.ReadBack.{IsReadBack, StandInOrder, AreReadBack, behind}
use Rattle.query_json.proofs.StringsRead.{IfThere, IsOfText, IsUtf8-are_ascii, ItemsOfText, MembersOfText, are_ascii, there_map, there_then}
use Rattle.query_forms.specs.Forms.{count_in, each_item, fraction_in, list_in, rewritten_column, rewritten_file, rewritten_join, rewritten_query, rewritten_relation, rewritten_table, text_in, with_member}
use Rattle.query_forms.specs.Fractions.{decimal_places, decimal_text, fraction_data, fraction_or_pair}
use Rattle.query_forms.proofs.Decimals.{decimal_reads}
use Rattle.query_forms.proofs.Fields.{file_fields, join_fields, query_fields, relation_fields, table_fields}
use Rattle.query_forms.proofs.NamedMembers.{Field, members_with}

-- ---- members in order

-- each key stands before k
abbrev AreBefore : List ℕ → Members → Type 0
AreBefore k no_members = ⊤
AreBefore k (member l e ms) = (slice_cmp nat_cmp k l ≡ Greater) × AreBefore k ms

put_last : (k : List ℕ) (d : Data) (ms : Members) → AreBefore k ms → put k d ms ≡ behind ms k d
put_last k d no_members h = refl
put_last k d (member l e ms) h =
    ap (λ o. match_ordering o (member k d (member l e ms)) (member l d ms) (member l e (put k d ms))) h.0 ∙ ap (member l e) (put_last k d ms h.1)

behind_before : (k l : List ℕ) (d : Data) (ms : Members) → AreBefore k ms → slice_cmp nat_cmp k l ≡ Greater → AreBefore k (behind ms l d)
behind_before k l d no_members h is = (is, tt)
behind_before k l d (member m e ms) h is = (h.0, behind_before k l d ms h.1 is)

one_behind : (found ms : Members) (k : List ℕ) (d : Data) → StandInOrder found ms → IsUtf8 k → IsReadBack d → AreBefore k found → AreBefore k ms
    → StandInOrder found (behind ms k d)
one_behind found no_members k d h u r before below = (u, put_last k d found before, r, tt)
one_behind found (member l e ms) k d h u r before below =
    (h.0, h.1, h.2, one_behind (behind found l e) ms k d h.3 u r (behind_before k l e found before below.0) below.1)

with_before : (k l : List ℕ) (o : Option Data) (ms : Members) → slice_cmp nat_cmp k l ≡ Greater → AreBefore l ms → AreBefore k ms → AreBefore k (with_member l o ms)
with_before k l None ms is below h = h
with_before k l (Some d) ms is below h = subst (AreBefore k) (sym (put_last l d ms below)) (behind_before k l d ms h is)

with_in_order : (k : List ℕ) (o : Option Data) (ms : Members) → IsUtf8 k → IfThere IsReadBack o → AreBefore k ms → StandInOrder no_members ms
    → StandInOrder no_members (with_member k o ms)
with_in_order k None ms u r below h = h
with_in_order k (Some d) ms u r below h = subst (StandInOrder no_members) (sym (put_last k d ms below)) (one_behind no_members ms k d h u r tt below)

-- the keys of all fields stand before k
abbrev FieldsBefore : List ℕ → List Field → Type 0
FieldsBefore k [] = ⊤
FieldsBefore k (f ∷ fs) = (slice_cmp nat_cmp k f.0 ≡ Greater) × FieldsBefore k fs

-- the last key first
abbrev AreFields : List Field → Type 0
AreFields [] = ⊤
AreFields (f ∷ fs) = (are_ascii f.0 ≡ true) × IfThere IsReadBack f.1 × FieldsBefore f.0 fs × AreFields fs

fields_before : (k : List ℕ) (fs : List Field) → AreFields fs → FieldsBefore k fs → AreBefore k (members_with fs)
fields_before k [] a h = tt
fields_before k (f ∷ fs) a h = with_before k f.0 f.1 (members_with fs) h.0 (fields_before f.0 fs a.3 a.2) (fields_before k fs a.3 h.1)

fields_read : (fs : List Field) → AreFields fs → IsReadBack (object (members_with fs))
fields_read [] a = tt
fields_read (f ∷ fs) a =
    with_in_order f.0 f.1 (members_with fs) (IsUtf8-are_ascii f.0 a.0) a.1 (fields_before f.0 fs a.3 a.2) (fields_read fs a.3)

-- ---- decimal texts

record IsDecimal (s : List ℕ) (r : Ratio) : Type 0 where
  ascii : are_ascii s ≡ true
  num : r.num < 2 ^ 64
  den : r.den < 2 ^ 64

digits_ascii : (ds : List ℕ) → list_all is_ascii_digit ds ≡ true → are_ascii ds ≡ true
digits_ascii [] h = refl
digits_ascii (c ∷ cs) h =
    let both = and_parts (is_ascii_digit c) (list_all is_ascii_digit cs) h in
    let most = leb-true c 57 (and_parts (nat_le 48 c) (nat_le c 57) both.0).1 in
    rw (lt-ltb c 128 (omega (arith, most))) (digits_ascii cs both.1)

first_digit : (c : ℕ) → (c == 48 || c == 49) ≡ true → is_ascii_digit c ≡ true
first_digit c h = elim (or_cases (c == 48) (c == 49) h) [ inl e ↦ rw (eqb-true c 48 e) refl | inr e ↦ rw (eqb-true c 49 e) refl ]

over_small : (first : ℕ) (ds : List ℕ) (s : List ℕ) → list_all is_ascii_digit (first ∷ ds) ≡ true → length ds ≤ 12 → are_ascii s ≡ true → IsDecimal s (over_tens first ds)
over_small first ds s h few a =
    let num : digits_value 10 (first ∷ ds) < 10 ^ 13 =
    digits_value_short (numerals_by_value (λ ds. list_all is_ascii_digit ds ≡ true) tells_all_ascii_digits) (first ∷ ds) 13 h (omega (arith, few)) in
    let den : 10 ^ length ds ≤ 10 ^ 12 = pow-le-pow_right {n = 10} (omega arith) few in
    record { ascii = a; num = omega (arith, num); den = omega (arith, den) }

decimals_small : (first : ℕ) (rest : List ℕ) (r : Ratio) → (first == 48 || first == 49) ≡ true → decimal_from first rest ≡ Some r → IsDecimal (first ∷ rest) r
decimals_small first [] r h e =
    let same : over_tens first [] ≡ r = cc in
    let digit = first_digit first h in
    let digits : list_all is_ascii_digit (first ∷ []) ≡ true = rw digit refl in
    subst (IsDecimal (first ∷ [])) same (over_small first [] (first ∷ []) digits (omega arith) (digits_ascii (first ∷ []) digits))
decimals_small first (b ∷ ds) r h e = by_test first b ds r h (b == 46 && are_decimals ds) refl e
  where
    by_test : (first b : ℕ) (ds : List ℕ) (r : Ratio) → (first == 48 || first == 49) ≡ true → (t : Bool) → (b == 46 && are_decimals ds) ≡ t
        → cond t (Some (over_tens first ds)) None ≡ Some r → IsDecimal (first ∷ b ∷ ds) r
    by_test first b ds r h false is e = absurd cc
    by_test first b ds r h true is e =
        let same : over_tens first ds ≡ r = cc in
        let parts = and_parts (b == 46) (are_decimals ds) is in
        let decimals = and_parts (nat_le 1 (length ds) && nat_le (length ds) DECIMALS_MAX) (list_all is_ascii_digit ds) parts.1 in
        let few : length ds ≤ 12 = leb-true (length ds) DECIMALS_MAX (and_parts (nat_le 1 (length ds)) (nat_le (length ds) DECIMALS_MAX) decimals.0).1 in
        let digit = first_digit first h in
        let digits : list_all is_ascii_digit (first ∷ ds) ≡ true = rw (digit, decimals.1) refl in
        let most = leb-true first 57 (and_parts (nat_le 48 first) (nat_le first 57) digit).1 in
        let point : b ≡ 46 = eqb-true b 46 parts.0 in
        let ascii : are_ascii (first ∷ b ∷ ds) ≡ true =
        rw (lt-ltb first 128 (omega (arith, most)), lt-ltb b 128 (omega (arith, point)), digits_ascii ds decimals.1) refl in
        subst (IsDecimal (first ∷ b ∷ ds)) same (over_small first ds (first ∷ b ∷ ds) digits few ascii)

decimal_is : (s : List ℕ) (r : Ratio) → decimal_of s ≡ Some r → IsDecimal s r
unfolding decimal_of
decimal_is [] r e = absurd cc
decimal_is (first ∷ rest) r e = by_first first rest r (first == 48 || first == 49) refl e
  where
    by_first : (first : ℕ) (rest : List ℕ) (r : Ratio) (t : Bool) → (first == 48 || first == 49) ≡ t → cond t (decimal_from first rest) None ≡ Some r → IsDecimal (first ∷ rest) r
    by_first first rest r false is e = absurd cc
    by_first first rest r true is e = decimals_small first rest r is e

-- ---- what stands at a member

text_read : (m : Option Data) → IfThere IsOfText m → IfThere IsReadBack (text_in m)
text_read None h = tt
text_read (Some null) h = tt
text_read (Some (boolean b)) h = tt
text_read (Some (number n)) h = tt
text_read (Some (string s)) h = h
text_read (Some (array ds)) h = tt
text_read (Some (object ms)) h = tt

count_read : (m : Option Data) → IfThere IsOfText m → IfThere IsReadBack (count_in m)
count_read None h = tt
count_read (Some null) h = tt
count_read (Some (boolean b)) h = tt
count_read (Some (number (unsigned n))) h = h
count_read (Some (number (negative z))) h = tt
count_read (Some (number (float x))) h = tt
count_read (Some (string s)) h = tt
count_read (Some (array ds)) h = tt
count_read (Some (object ms)) h = tt

-- a fraction of two whole numbers
abbrev IsPair : Ratio → Type 0
IsPair r = (r.num < 2 ^ 64) × (r.den < 2 ^ 64)

whole_small : (d : Data) → IsOfText d → IfThere (λ n. n < 2 ^ 64) (option_and_then as_u64 (as_number d))
whole_small null h = tt
whole_small (boolean b) h = tt
whole_small (number (unsigned n)) h = h
whole_small (number (negative z)) h = tt
whole_small (number (float x)) h = tt
whole_small (string s) h = tt
whole_small (array ds) h = tt
whole_small (object ms) h = tt

pair_small : (ds : Items) → ItemsOfText ds → IfThere IsPair (as_pair ds)
pair_small no_items h = tt
pair_small (item a no_items) h = tt
pair_small (item a (item b no_items)) h =
    there_then (λ n. n < 2 ^ 64) IsPair (λ n. option_map (λ d. record { num = n; den = d }) (option_and_then as_u64 (as_number b))) (option_and_then as_u64 (as_number a))
    (whole_small a h.0)
    (λ n p. there_map (λ n. n < 2 ^ 64) IsPair (λ d. record { num = n; den = d }) (option_and_then as_u64 (as_number b)) (whole_small b h.1.0) (λ d q. (p, q)))
pair_small (item a (item b (item c ds))) h = tt

decimal_small : (s : List ℕ) (o : Option Ratio) → decimal_of s ≡ o → IfThere IsPair o
decimal_small s None e = tt
decimal_small s (Some r) e = let d = decimal_is s r e in (d.num, d.den)

ratio_small : (d : Data) → IsOfText d → IfThere IsPair (as_ratio Two d)
ratio_small null h = tt
ratio_small (boolean b) h = tt
ratio_small (number n) h = tt
ratio_small (string s) h = decimal_small s (decimal_of s) refl
ratio_small (array ds) h = pair_small ds h
ratio_small (object ms) h = tt

ratio_read : (r : Ratio) → IsPair r → IsReadBack (fraction_data r)
unfolding fraction_data
ratio_read r h = by_places (decimal_places r) refl
  where
    by_places : (o : Option ℕ) → decimal_places r ≡ o → IsReadBack (fraction_or_pair r o)
    by_places None e = (h.0, (h.1, tt))
    by_places (Some k) e = IsUtf8-are_ascii (decimal_text k r.num) (decimal_is (decimal_text k r.num) r (decimal_reads r k e)).ascii

fraction_read : (m : Option Data) → IfThere IsOfText m → IfThere IsReadBack (fraction_in m)
fraction_read m h = there_map IsPair IsReadBack fraction_data (option_and_then (as_ratio Two) m) (there_then IsOfText IsPair (as_ratio Two) m h ratio_small) ratio_read

items_read : (f : Data → Data) → ((d : Data) → IsOfText d → IsReadBack (f d)) → (ds : Items) → ItemsOfText ds → AreReadBack (each_item f ds)
items_read f h no_items p = tt
items_read f h (item d ds) p = (h d p.0, items_read f h ds p.1)

list_read : (f : Data → Data) → ((d : Data) → IsOfText d → IsReadBack (f d)) → (m : Option Data) → IfThere IsOfText m → IfThere IsReadBack (list_in f m)
list_read f h None p = tt
list_read f h (Some null) p = tt
list_read f h (Some (boolean b)) p = tt
list_read f h (Some (number n)) p = tt
list_read f h (Some (string s)) p = tt
list_read f h (Some (array ds)) p = items_read f h ds p
list_read f h (Some (object ms)) p = tt

by_order : (o : Ordering) (a b c : Option Data) → IfThere IsOfText a → IfThere IsOfText b → IfThere IsOfText c → IfThere IsOfText (match_ordering o a b c)
by_order Less a b c p q r = p
by_order Equal a b c p q r = q
by_order Greater a b c p q r = r

member_of_text : (k : List ℕ) (ms : Members) → MembersOfText ms → IfThere IsOfText (get_member k ms)
member_of_text k no_members h = tt
member_of_text k (member l e ms) h =
    let later = member_of_text k ms h.2 in
    by_order (slice_cmp nat_cmp k l) (get_member k ms) (Some e) (get_member k ms) later h.1 later

get_of_text : (k : List ℕ) (d : Data) → IsOfText d → IfThere IsOfText (get k d)
get_of_text k null h = tt
get_of_text k (boolean b) h = tt
get_of_text k (number n) h = tt
get_of_text k (string s) h = tt
get_of_text k (array ds) h = tt
get_of_text k (object ms) h = member_of_text k ms h

-- ---- the objects

module _ (d : Data) (h : IsOfText d) where
  text : (k : List ℕ) → IfThere IsReadBack (text_in (get k d))
  text k = text_read (get k d) (get_of_text k d h)

  count : (k : List ℕ) → IfThere IsReadBack (count_in (get k d))
  count k = count_read (get k d) (get_of_text k d h)

  fraction : (k : List ℕ) → IfThere IsReadBack (fraction_in (get k d))
  fraction k = fraction_read (get k d) (get_of_text k d h)

  list : (k : List ℕ) (f : Data → Data) → ((e : Data) → IsOfText e → IsReadBack (f e)) → IfThere IsReadBack (list_in f (get k d))
  list k f each = list_read f each (get k d) (get_of_text k d h)

column_ready : (distinct name : Option Data) → IfThere IsReadBack distinct → IfThere IsReadBack name
    → IsReadBack (object (with_member (codes "distinct") distinct (with_member (codes "name") name no_members)))
column_ready None None p q = tt
column_ready None (Some y) p q = (IsUtf8-are_ascii (codes "name") refl, refl, q, tt)
column_ready (Some x) None p q = (IsUtf8-are_ascii (codes "distinct") refl, refl, p, tt)
column_ready (Some x) (Some y) p q = (IsUtf8-are_ascii (codes "distinct") refl, refl, p, (IsUtf8-are_ascii (codes "name") refl, refl, q, tt))

column_read : (d : Data) → IsOfText d → IsReadBack (rewritten_column d)
unfolding rewritten_column
column_read d h = column_ready (count_in (get (codes "distinct") d)) (text_in (get (codes "name") d)) (count d h (codes "distinct")) (text d h (codes "name"))

table_read : (d : Data) → IsOfText d → IsReadBack (rewritten_table d)
unfolding rewritten_table
table_read d h =
    fields_read (table_fields d)
    (refl, count d h (codes "rows"), (refl, (refl, tt)), (refl, text d h (codes "name"), (refl, tt), (refl, list d h (codes "columns") rewritten_column column_read, tt, tt)))

relation_read : (d : Data) → IsOfText d → IsReadBack (rewritten_relation d)
unfolding rewritten_relation
relation_read d h =
    fields_read (relation_fields d)
    (refl, text d h (codes "table"), (refl, (refl, tt)), (refl, fraction d h (codes "filter"), (refl, tt), (refl, text d h (codes "alias"), tt, tt)))

join_read : (d : Data) → IsOfText d → IsReadBack (rewritten_join d)
unfolding rewritten_join
join_read d h =
    let left : AreFields ((codes "left", text_in (get (codes "left") d)) ∷ []) = (refl, text d h (codes "left"), tt, tt) in
    fields_read (join_fields d) (
      refl,
      fraction d h (codes "selectivity"),
      (refl, (refl, (refl, (refl, tt)))),
      (refl, text d h (codes "right_column"), (refl, (refl, (refl, tt))), (refl, text d h (codes "right"), (refl, (refl, tt)), (refl, text d h (codes "left_column"), (refl, tt), left))),
    )

query_read : (d : Data) → IsOfText d → IsReadBack (rewritten_query d)
unfolding rewritten_query
query_read d h =
    fields_read (query_fields d) (
      refl,
      list d h (codes "relations") rewritten_relation relation_read,
      (refl, (refl, tt)),
      (refl, text d h (codes "name"), (refl, tt), (refl, list d h (codes "joins") rewritten_join join_read, tt, tt)),
    )

pub file_read : (d : Data) → IsOfText d → IsReadBack (rewritten_file d)
unfolding rewritten_file
file_read d h =
    let two : 2 < 2 ^ 64 = omega arith in
    fields_read (file_fields d) (
      refl,
      two,
      (refl, (refl, tt)),
      (refl, list d h (codes "tables") rewritten_table table_read, (refl, tt), (refl, list d h (codes "queries") rewritten_query query_read, tt, tt)),
    )
