-- A value is read back from its compact text, where its numbers are whole and the members of its objects stand in order.
use Rattle.std.proofs.Common.{◌≡◌, ◌∙◌, ◌^◌, ◌<◌, ◌≤◌, ℕ, suc, List, [], ◌∷◌, ◌++◌, Bool, true, false, Some, IsUtf8, decimal, refl, sym, ap, arith, append-nil, inl, inr}
use Rattle.std.specs.Prelude.{⊤, option_and_then, option_map}
use Rattle.std.specs.Char.{digit_value}
use Rattle.std.specs.Str.Parse.{AllDigits}
use Rattle.std.proofs.lemmas.Bool.{lt-ltb, le-ltb, cases_lt}
use Rattle.std.proofs.lemmas.Fmt.{decimal_is_IsNumeral}
use Rattle.std.proofs.lemmas.Str.{IsUtf8-append, is_utf8-from_IsUtf8}
use Rattle.json.specs.Json as json
use Rattle.json.specs.Lex.{tokens}
use Rattle.json.specs.Print.{quoted}
use Rattle.json.specs.Tree as tree
use Rattle.json.specs.Tree.{HasNumbers, ItemsHaveNumbers, MembersHaveNumbers, json_tokens}
use Rattle.json.proofs.Printed.Decimals.{IsNumber-decimal}
use Rattle.json.proofs.Printed.Tokens.{tokens-print}
use Rattle.json.proofs.Printed.Trees.{ArePrintable-json_tokens, value-json_tokens}
use Rattle.json.proofs.Printed.Utf8.{IsUtf8-are_ascii, IsUtf8-boolean, IsUtf8-quoted, are_ascii}
use Rattle.serde_json.specs.Data.{Num, unsigned, negative, float, Data, null, boolean, number, string, array, object, Items, no_items, item, Members, no_members, member, put, depth, items_depth, members_depth}
use Rattle.serde_json.specs.Read.{max_depth, of_json, of_items, of_members, read}
use Rattle.serde_json.specs.Written.{comma_if, compact_text, items_outline, items_text, members_outline, members_text, outline}
use Rattle.serde_json.proofs.Numbers.{number_of-decimal}
use Rattle.serde_json.proofs.Texts.{print-outline}
use Rattle.query_json.specs.Walk.{json_of}

-- ---- what is read back

-- the members, with one more behind them
abbrev pub behind : Members → List ℕ → Data → Members
behind no_members k d = member k d no_members
behind (member l e ms) k d = member l e (behind ms k d)

abbrev pub IsWhole : Num → Type 0
IsWhole (unsigned n) = n < 2 ^ 64
IsWhole (negative z) = ⊥
IsWhole (float x) = ⊥

-- of an object the members before the first one left are `found`
abbrev mutual
  pub IsReadBack : Data → Type 0
  IsReadBack null = ⊤
  IsReadBack (boolean b) = ⊤
  IsReadBack (number n) = IsWhole n
  IsReadBack (string s) = IsUtf8 s
  IsReadBack (array ds) = AreReadBack ds
  IsReadBack (object ms) = StandInOrder no_members ms

  pub AreReadBack : Items → Type 0
  AreReadBack no_items = ⊤
  AreReadBack (item d ds) = IsReadBack d × AreReadBack ds

  pub StandInOrder : Members → Members → Type 0
  StandInOrder found no_members = ⊤
  StandInOrder found (member k d ms) =
      IsUtf8 k × (put k d found ≡ behind found k d) × IsReadBack d × StandInOrder (behind found k d) ms

-- ---- numbers

whole_numbers : (n : Num) → IsWhole n → HasNumbers (outline (number n))
whole_numbers (unsigned n) h = IsNumber-decimal n h
whole_numbers (negative z) h = absurd h
whole_numbers (float x) h = absurd h

mutual
  numbers : (d : Data) → IsReadBack d → HasNumbers (outline d)
  numbers null h = tt
  numbers (boolean b) h = tt
  numbers (number n) h = whole_numbers n h
  numbers (string s) h = tt
  numbers (array ds) h = items_numbers ds h
  numbers (object ms) h = members_numbers no_members ms h

  items_numbers : (ds : Items) → AreReadBack ds → ItemsHaveNumbers (items_outline ds)
  items_numbers no_items h = tt
  items_numbers (item d ds) h = (numbers d h.0, items_numbers ds h.1)

  members_numbers : (found ms : Members) → StandInOrder found ms → MembersHaveNumbers (members_outline ms)
  members_numbers found no_members h = tt
  members_numbers found (member k d ms) h = (numbers d h.2, members_numbers (behind found k d) ms h.3)

-- ---- depth

mutual
  same_depth : (d : Data) → tree.depth (outline d) ≡ depth d
  same_depth null = refl
  same_depth (boolean b) = refl
  same_depth (number n) = refl
  same_depth (string s) = refl
  same_depth (array ds) = ap suc (same_items_depth ds)
  same_depth (object ms) = ap suc (same_members_depth ms)

  same_items_depth : (ds : Items) → tree.items_depth (items_outline ds) ≡ items_depth ds
  same_items_depth no_items = refl
  same_items_depth (item d ds) = rw (same_depth d, same_items_depth ds) refl

  same_members_depth : (ms : Members) → tree.members_depth (members_outline ms) ≡ members_depth ms
  same_members_depth no_members = refl
  same_members_depth (member k d ms) = rw (same_depth d, same_members_depth ms) refl

-- ---- the tree

-- the members, with others behind them
abbrev joined : Members → Members → Members
joined found no_members = found
joined found (member k d ms) = joined (behind found k d) ms

front : Members → Members → Members
front no_members ms = ms
front (member k d found) ms = member k d (front found ms)

front_behind : (found : Members) (k : List ℕ) (d : Data) (ms : Members) → front (behind found k d) ms ≡ front found (member k d ms)
unfolding front
front_behind no_members k d ms = refl
front_behind (member l e found) k d ms = ap (member l e) (front_behind found k d ms)

front_none : (found : Members) → front found no_members ≡ found
unfolding front
front_none no_members = refl
front_none (member k d found) = ap (member k d) (front_none found)

joined_front : (found ms : Members) → joined found ms ≡ front found ms
joined_front found no_members = sym (front_none found)
joined_front found (member k d ms) = joined_front (behind found k d) ms ∙ front_behind found k d ms

joined_all : (ms : Members) → joined no_members ms ≡ ms
unfolding front
joined_all ms = joined_front no_members ms

whole_made : (n : Num) → IsWhole n → of_json (outline (number n)) ≡ Some (number n)
whole_made (unsigned n) h = ap (option_map number) (number_of-decimal n h)
whole_made (negative z) h = absurd h
whole_made (float x) h = absurd h

mutual
  made : (d : Data) → IsReadBack d → of_json (outline d) ≡ Some d
  made null h = refl
  made (boolean b) h = refl
  made (number n) h = whole_made n h
  made (string s) h = refl
  made (array ds) h = ap (option_map array) (items_made ds h)
  made (object ms) h = ap (option_map object) (members_made no_members ms h ∙ ap Some (joined_all ms))

  items_made : (ds : Items) → AreReadBack ds → of_items (items_outline ds) ≡ Some ds
  items_made no_items h = refl
  items_made (item d ds) h =
      ap (option_and_then (λ x. option_map (item x) (of_items (items_outline ds)))) (made d h.0)
      ∙ ap (option_map (item d)) (items_made ds h.1)

  members_made : (found ms : Members) → StandInOrder found ms → of_members (members_outline ms) found ≡ Some (joined found ms)
  members_made found no_members h = refl
  members_made found (member k d ms) h =
      ap (option_and_then (λ x. of_members (members_outline ms) (put k x found))) (made d h.2)
      ∙ ap (of_members (members_outline ms)) h.1 ∙ members_made (behind found k d) ms h.3

-- ---- the text

tokens_back : (d : Data) → IsReadBack d → tokens (compact_text d) ≡ json_tokens (outline d)
tokens_back d h =
    ap tokens (sym (print-outline d)) ∙ tokens-print (json_tokens (outline d)) (ArePrintable-json_tokens (outline d) (numbers d h))

pub read-compact_text : (d : Data) → IsReadBack d → depth d ≤ max_depth → read (compact_text d) ≡ Some d
read-compact_text d h shallow =
    let few : tree.depth (outline d) ≤ max_depth = rw (same_depth d) shallow in
    ap (λ ts. option_and_then of_json (option_and_then (λ p. json.if_last p.0 p.1) (json.value max_depth ts)))
    (tokens_back d h ∙ sym (append-nil (json_tokens (outline d))))
    ∙ ap (λ o. option_and_then of_json (option_and_then (λ p. json.if_last p.0 p.1) o)) (value-json_tokens (outline d) max_depth [] few)
    ∙ made d h

-- ---- UTF-8

digit_small : (c : ℕ) → digit_value c < 10 → c < 128
digit_small c h = elim (cases_lt c 128) [ inl small ↦ small | inr large ↦ absurd (too_large c large h) ]
  where
    too_large : (c : ℕ) → 128 ≤ c → digit_value c < 10 → ⊥
    too_large c large h =
        let value : digit_value c ≡ 36 =
        rw (
          le-ltb c 48 (omega arith),
          le-ltb c 58 (omega arith),
          le-ltb c 65 (omega arith),
          le-ltb c 91 (omega arith),
          le-ltb c 97 (omega arith),
          le-ltb c 123 (omega arith),
        ) refl in
        omega (arith, value)

digits_ascii : (ds : List ℕ) → AllDigits 10 ds → are_ascii ds ≡ true
digits_ascii [] h = refl
digits_ascii (c ∷ cs) h = rw (lt-ltb c 128 (digit_small c h.0)) (digits_ascii cs h.1)

pub decimal_utf8 : (n : ℕ) → n < 2 ^ 64 → IsUtf8 (decimal n)
decimal_utf8 n h = IsUtf8-are_ascii (decimal n) (digits_ascii (decimal n) (decimal_is_IsNumeral n h).0.1)

whole_utf8 : (n : Num) → IsWhole n → IsUtf8 (compact_text (number n))
whole_utf8 (unsigned n) h = decimal_utf8 n h
whole_utf8 (negative z) h = absurd h
whole_utf8 (float x) h = absurd h

comma_utf8 : (later : Bool) → IsUtf8 (comma_if later)
comma_utf8 true = IsUtf8-are_ascii (44 ∷ []) refl
comma_utf8 false = IsUtf8-are_ascii [] refl

mutual
  utf8 : (d : Data) → IsReadBack d → IsUtf8 (compact_text d)
  utf8 null h = IsUtf8-are_ascii _ refl
  utf8 (boolean b) h = IsUtf8-boolean b
  utf8 (number n) h = whole_utf8 n h
  utf8 (string s) h = IsUtf8-quoted s h
  utf8 (array ds) h = IsUtf8-append (91 ∷ []) (items_text false ds) (IsUtf8-are_ascii (91 ∷ []) refl) (items_utf8 false ds h)
  utf8 (object ms) h =
      IsUtf8-append (123 ∷ []) (members_text false ms) (IsUtf8-are_ascii (123 ∷ []) refl) (members_utf8 false no_members ms h)

  items_utf8 : (later : Bool) (ds : Items) → AreReadBack ds → IsUtf8 (items_text later ds)
  items_utf8 later no_items h = IsUtf8-are_ascii (93 ∷ []) refl
  items_utf8 later (item d ds) h =
      IsUtf8-append (comma_if later) _ (comma_utf8 later) (IsUtf8-append (compact_text d) _ (utf8 d h.0) (items_utf8 true ds h.1))

  members_utf8 : (later : Bool) (found ms : Members) → StandInOrder found ms → IsUtf8 (members_text later ms)
  members_utf8 later found no_members h = IsUtf8-are_ascii (125 ∷ []) refl
  members_utf8 later found (member k d ms) h =
      let rest : IsUtf8 (58 ∷ (compact_text d ++ members_text true ms)) =
      IsUtf8-append (58 ∷ []) _ (IsUtf8-are_ascii (58 ∷ []) refl)
      (IsUtf8-append (compact_text d) _ (utf8 d h.2) (members_utf8 true (behind found k d) ms h.3)) in
      IsUtf8-append (comma_if later) _ (comma_utf8 later) (IsUtf8-append (quoted k) _ (IsUtf8-quoted k h.0) rest)

pub json_of-compact_text : (d : Data) → IsReadBack d → depth d ≤ max_depth → json_of (compact_text d) ≡ Some d
json_of-compact_text d h shallow = rw (is_utf8-from_IsUtf8 (compact_text d) (utf8 d h)) (read-compact_text d h shallow)
