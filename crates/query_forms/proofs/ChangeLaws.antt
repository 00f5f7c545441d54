-- Changes read one after the other, as a loop does.
use Rattle.std.proofs.Common.{◌≡◌, ◌∙◌, ℕ, suc, ◌+◌, ◌-◌, ◌<◌, List, [], ◌∷◌, ◌++◌, Bool, true, false, cond, Option, Some, None, Result, Ok, drop, length, get_or, refl, sym, ap, append_assoc, arith}
use Rattle.std.specs.Prelude.{option_and_then, option_map}
use Rattle.std.specs.List.{filter, range_with_len}
use Rattle.std.proofs.lemmas.List.{drop_more}
use Rattle.serde_json.specs.Data.{Data, Items, item}
use Rattle.serde_json.specs.View.{items_view, view}
use Rattle.serde_json.specs.declared.value.Value.{Value}
use Rattle.query_json.specs.Answer.{◌>>=◌}
use Rattle.query_forms.specs.declared.changes.Asked.{Asked}
use Rattle.query_forms.specs.declared.changes.ChangeFault.{ChangeFault}
use Rattle.std.specs.Prelude.{slice_get}
use Rattle.std.proofs.lemmas.Option.{get_or_from_slice_get, slice_get_within}
use Rattle.query_json.specs.declared.entry.Entry.{Entry}
use Rattle.query_json.specs.Walk.{item_count}
use Rattle.query_forms.specs.Changes.{all_changes, as_change, relations_at, uses_from, uses_in}

-- what comes behind a list that is there
abbrev pub behind : {X : Type 0} → List X → Result (List X) ChangeFault → Result (List X) ChangeFault
behind found later = later >>= λ more. Ok (found ++ more)

abbrev pub in_front : List Asked → Option (List Asked) → Option (List Asked)
in_front front o = option_map (λ cs. front ++ cs) o

pub nothing_in_front : (o : Option (List Asked)) → in_front [] o ≡ o
nothing_in_front None = refl
nothing_in_front (Some cs) = refl

front_more : (front : List Asked) (c : Asked) (o : Option (List Asked)) → in_front (front ++ c ∷ []) o ≡ in_front front (option_map (λ cs. c ∷ cs) o)
front_more front c None = refl
front_more front c (Some cs) = ap Some (append_assoc front (c ∷ []) cs)

abbrev change_first : List Asked → Items → Option Asked → Option (List Asked)
change_first front ds o = in_front front (option_and_then (λ c. option_map (λ cs. c ∷ cs) (all_changes ds)) o)

-- the items from a place on begin with the one there
pub items_here : (vs : List Value) (i : ℕ) (v : Value) → i < length vs → v ≡ get_or vs i v → items_view (drop i vs) ≡ item (view v) (items_view (drop (i + 1) vs))
items_here vs i v lt is = ap items_view (drop_more vs i v lt ∙ ap (λ w. w ∷ drop (i + 1) vs) (sym is))

pub one_in_front : (front : List Asked) (c : Asked) (vs : List Value) (i : ℕ) (v : Value) → i < length vs → v ≡ get_or vs i v → as_change (view v) ≡ Some c
    → in_front (front ++ c ∷ []) (all_changes (items_view (drop (i + 1) vs))) ≡ in_front front (all_changes (items_view (drop i vs)))
one_in_front front c vs i v lt is e =
    front_more front c (all_changes (items_view (drop (i + 1) vs)))
    ∙ ap (change_first front (items_view (drop (i + 1) vs))) (sym e)
    ∙ ap (λ ds. in_front front (all_changes ds)) (sym (items_here vs i v lt is))

pub none_in_front : (front : List Asked) (vs : List Value) (i : ℕ) (v : Value) → i < length vs → v ≡ get_or vs i v → as_change (view v) ≡ None
    → in_front front (all_changes (items_view (drop i vs))) ≡ None
none_in_front front vs i v lt is e =
    ap (λ ds. in_front front (all_changes ds)) (items_here vs i v lt is) ∙ ap (change_first front (items_view (drop (i + 1) vs))) e

-- the numbers from one on begin with it
pub range_here : (r n : ℕ) → r < n → range_with_len r (n - r) ≡ r ∷ range_with_len (r + 1) (n - (r + 1))
range_here r n h = let more : n - r ≡ suc (n - (r + 1)) = omega (arith, h) in rw more refl

pub kept_here : (p : ℕ → Bool) (r n : ℕ) (found : List ℕ) → r < n → p r ≡ true
    → (found ++ r ∷ []) ++ filter p (range_with_len (r + 1) (n - (r + 1))) ≡ found ++ filter p (range_with_len r (n - r))
kept_here p r n found h is =
    append_assoc found (r ∷ []) (filter p (range_with_len (r + 1) (n - (r + 1))))
    ∙ ap (λ s. found ++ s) (sym (ap (filter p) (range_here r n h) ∙ ap (λ b. cond b (r ∷ filter p (range_with_len (r + 1) (n - (r + 1)))) (filter p (range_with_len (r + 1) (n - (r + 1))))) is))

pub passed_here : (p : ℕ → Bool) (r n : ℕ) (found : List ℕ) → r < n → p r ≡ false
    → found ++ filter p (range_with_len (r + 1) (n - (r + 1))) ≡ found ++ filter p (range_with_len r (n - r))
passed_here p r n found h is =
    ap (λ s. found ++ s) (sym (ap (filter p) (range_here r n h) ∙ ap (λ b. cond b (r ∷ filter p (range_with_len (r + 1) (n - (r + 1)))) (filter p (range_with_len (r + 1) (n - (r + 1))))) is))

pub item_count_view : (vs : List Value) → item_count (items_view vs) ≡ length vs
item_count_view [] = refl
item_count_view (v ∷ vs) = omega (arith, item_count_view vs)

-- ---- what each query uses

pub uses_here : (table : List ℕ) (w : Data) (entries : List Entry) (i : ℕ) (e : Entry) (front after : List (List ℕ)) (uses : List ℕ) (rs : Option Data)
    → after ≡ front ++ uses ∷ [] → drop i entries ≡ e ∷ drop (i + 1) entries → rs ≡ relations_at w i → uses ≡ uses_in table rs e.part
    → after ++ uses_from table w (i + 1) (drop (i + 1) entries) ≡ front ++ uses_from table w i (drop i entries)
uses_here table w entries i e front after uses rs pushed here same is =
    ap (λ s. s ++ uses_from table w (i + 1) (drop (i + 1) entries)) pushed
    ∙ append_assoc front (uses ∷ []) (uses_from table w (i + 1) (drop (i + 1) entries))
    ∙ ap (λ u. front ++ u ∷ uses_from table w (i + 1) (drop (i + 1) entries)) (is ∙ ap (λ r. uses_in table r e.part) same)
    ∙ ap (λ es. front ++ uses_from table w i es) (sym here)

pub entry_here : (entries : List Entry) (i : ℕ) (e : Entry) → slice_get entries i ≡ Some e → drop i entries ≡ e ∷ drop (i + 1) entries
entry_here entries i e is =
    drop_more entries i e (slice_get_within entries i e is) ∙ ap (λ x. x ∷ drop (i + 1) entries) (get_or_from_slice_get entries i e e is)
