-- Looking into a tree of json finds what looking into the data that it stands for finds.
use Rattle.std.proofs.Common.{◌≡◌, ◌∙◌, ◌&&◌, ℕ, List, [], ◌∷◌, Bool, true, false, cond, true≢false, Option, Some, None, is_some, option_map, Ok, Err, Bor, Vec, refl, sym, ap}
use Rattle.std.specs.Prelude.{option_and_then}
use Rattle.std.specs.Str.{bytes_eq}
use Rattle.std.proofs.lemmas.Slice.Eq.{bytes_eq-Decides}
use Rattle.json.specs.Json as json
use Rattle.json.specs.Find as look
use Rattle.json.specs.Lex.{tokens}
use Rattle.json.specs.Value as view
use Rattle.json.specs.declared.value.Value.{Value}
use Rattle.json.specs.declared.value.Value as tree
use Rattle.json.proofs.Trees.{view-Array}
use Rattle.serde_json.specs.Data.{Num, Data, number, array, object, item, Members, no_members, put}
use Rattle.serde_json.specs.Find.{get, get_member, as_array}
use Rattle.serde_json.specs.Read.{max_depth, number_of, of_json, of_items, of_members, read}
use Rattle.serde_json.proofs.Views.{get_member-put, get_member-put_other}
use Rattle.query_json.specs.declared.fault.FileFault.TheVariants.{NotJson}
use Rattle.query_json.specs.Walk.{or_not_json}
use Rattle.query_json.specs.Walk.Tree.{number_data, data_of, items_data, members_data, numbers_fit, items_fit, members_fit, seen, seen_items}

-- ---- what serde_json makes of a tree

map_cond : {X Y : Type 0} (f : X → Y) (b : Bool) (x : X) → option_map f (cond b (Some x) None) ≡ cond b (Some (f x)) None
map_cond f true x = refl
map_cond f false x = refl

then_cond : {X Y : Type 0} (f : X → Option Y) (b c : Bool) (x : X) (y : Y) → f x ≡ cond c (Some y) None → option_and_then f (cond b (Some x) None) ≡ cond (b && c) (Some y) None
then_cond f true c x y e = e
then_cond f false c x y e = refl

number_made : (o : Option Num) → option_map number o ≡ cond (is_some o) (Some (number_data o)) None
number_made None = refl
number_made (Some n) = refl

mutual
  pub made : (j : json.Json) → of_json j ≡ cond (numbers_fit j) (Some (data_of j)) None
  made json.null = refl
  made (json.boolean b) = refl
  made (json.number s) = number_made (number_of s)
  made (json.string s) = refl
  made (json.array js) = ap (option_map array) (items_made js) ∙ map_cond array (items_fit js) (items_data js)
  made (json.object ms) = ap (option_map object) (members_made ms no_members) ∙ map_cond object (members_fit ms) (members_data ms no_members)

  items_made : (js : json.Items) → of_items js ≡ cond (items_fit js) (Some (items_data js)) None
  items_made json.no_items = refl
  items_made (json.item j js) =
      ap (option_and_then (λ d. option_map (item d) (of_items js))) (made j)
      ∙ then_cond (λ d. option_map (item d) (of_items js)) (numbers_fit j) (items_fit js) (data_of j) (item (data_of j) (items_data js))
      (ap (option_map (item (data_of j))) (items_made js) ∙ map_cond (item (data_of j)) (items_fit js) (items_data js))

  members_made : (ms : json.Members) (found : Members) → of_members ms found ≡ cond (members_fit ms) (Some (members_data ms found)) None
  members_made json.no_members found = refl
  members_made (json.member k j ms) found =
      ap (option_and_then (λ d. of_members ms (put k d found))) (made j)
      ∙ then_cond (λ d. of_members ms (put k d found)) (numbers_fit j) (members_fit ms) (data_of j) (members_data ms (put k (data_of j) found)) (members_made ms (put k (data_of j) found))

abbrev whole_of : List ℕ → Option json.Json
whole_of text = option_and_then (λ p. json.if_last p.0 p.1) (json.value max_depth (tokens text))

read_made : (text : List ℕ) (j : json.Json) → Some j ≡ whole_of text → read text ≡ cond (numbers_fit j) (Some (data_of j)) None
read_made text j e = ap (option_and_then of_json) (sym e) ∙ made j

-- ---- looking in

no_member : (q : List ℕ) (o : Option Num) → get q (number_data o) ≡ None
no_member q None = refl
no_member q (Some n) = refl

put_by : (q k : List ℕ) (d : Data) (found : Members) (b : Bool) → bytes_eq k q ≡ b → get_member q (put k d found) ≡ cond b (Some d) (get_member q found)
put_by q k d found true e = let same : k ≡ q = (bytes_eq-Decides k q).0 e in rw (← same) (get_member-put k d found)
put_by q k d found false e = get_member-put_other q k d found (λ same. let yes : bytes_eq k q ≡ true = (bytes_eq-Decides k q).1 (sym same) in absurd (true≢false (sym yes ∙ e)))

abbrev found_or : Option json.Json → Option Data → Option Data
found_or None d = d
found_or (Some j) d = Some (data_of j)

later : (o : Option json.Json) (b : Bool) (j : json.Json) (d : Option Data) → found_or o (cond b (Some (data_of j)) d) ≡ found_or (look.later_or o (cond b (Some j) None)) d
later None true j d = refl
later None false j d = refl
later (Some x) b j d = refl

same_members : (q : List ℕ) (ms : json.Members) (found : Members) → get_member q (members_data ms found) ≡ found_or (look.get_member q ms) (get_member q found)
same_members q json.no_members found = refl
same_members q (json.member k j ms) found =
    same_members q ms (put k (data_of j) found)
    ∙ ap (found_or (look.get_member q ms)) (put_by q k (data_of j) found (bytes_eq k q) refl)
    ∙ later (look.get_member q ms) (bytes_eq k q) j (get_member q found)

found_first : (o : Option json.Json) → found_or o None ≡ option_map data_of o
found_first None = refl
found_first (Some j) = refl

pub same_member : (q : List ℕ) (j : json.Json) → option_map data_of (look.get q j) ≡ get q (data_of j)
same_member q json.null = refl
same_member q (json.boolean b) = refl
same_member q (json.number s) = sym (no_member q (number_of s))
same_member q (json.string s) = refl
same_member q (json.array js) = refl
same_member q (json.object ms) = sym (same_members q ms no_members ∙ found_first (look.get_member q ms))

same_items : {A : Type 0} (vs : List (Value A)) → items_data (view.items_view vs) ≡ seen_items vs
same_items [] = refl
same_items (v ∷ vs) = ap (item (seen v)) (same_items vs)

-- a value that is found is found as its data
pub seen_found : {A : Type 0} (o : Option (Bor (Value A))) (j : Option json.Json) → option_map (λ v. view.value_view v.now) o ≡ j → option_map (λ v. seen v.now) o ≡ option_map data_of j
seen_found None j e = ap (option_map data_of) e
seen_found (Some v) j e = ap (option_map data_of) e

pub seen_array : {A : Type 0} (v : Vec (Value A) A) → as_array (seen (tree.Array v)) ≡ Some (seen_items v.items)
seen_array v = ap (λ j. as_array (data_of j)) (view-Array v) ∙ ap Some (same_items v.items)

-- ---- the tree of a text

tree_said : {A : Type 0} (text : List ℕ) (o : Option (Value A)) (v : Value A) → o ≡ Some v → option_map view.value_view o ≡ whole_of text → read text ≡ cond (numbers_fit (view.value_view v)) (Some (seen v)) None
tree_said text o v is e = read_made text (view.value_view v) (sym (ap (option_map view.value_view) is) ∙ e)

pub tree_kept : {A : Type 0} (text : List ℕ) (o : Option (Value A)) (v : Value A) → o ≡ Some v → option_map view.value_view o ≡ whole_of text → numbers_fit (view.value_view v) ≡ true → or_not_json (read text) ≡ Ok (seen v)
tree_kept text o v is e fits = rw (tree_said text o v is e, fits) refl

pub tree_lost : {A : Type 0} (text : List ℕ) (o : Option (Value A)) (v : Value A) → o ≡ Some v → option_map view.value_view o ≡ whole_of text → numbers_fit (view.value_view v) ≡ false → or_not_json (read text) ≡ Err NotJson
tree_lost text o v is e fits = rw (tree_said text o v is e, fits) refl
