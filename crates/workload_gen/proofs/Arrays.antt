-- The items of an array that is written one after another.
use Rattle.std.proofs.Common.{◌≡◌, ◌∙◌, ℕ, ◌+◌, ◌<◌, ◌≤◌, List, [], ◌∷◌, ◌++◌, map, length, drop, get_or, refl, sym, ap}
use Rattle.serde_json.specs.Data.{Data, Items, no_items, item}
use Rattle.serde_json.specs.View.{items_of, view}
use Rattle.serde_json.specs.declared.value.Value.{Value}
use Rattle.std.proofs.lemmas.List.{drop_more, map-append}
use Rattle.std.proofs.Math.ListN.{drop_of_length-le}
use Rattle.workload_gen.specs.Values.{values}

-- the items, with others behind them
abbrev pub items_before : List Data → Items → Items
items_before [] rest = rest
items_before (d ∷ ds) rest = item d (items_before ds rest)

before_none : (ds : List Data) → items_before ds no_items ≡ items_of ds
before_none [] = refl
before_none (d ∷ ds) = ap (item d) (before_none ds)

before_one : (ds : List Data) (d : Data) (rest : Items) → items_before (ds ++ d ∷ []) rest ≡ items_before ds (item d rest)
before_one [] d rest = refl
before_one (e ∷ ds) d rest = ap (item e) (before_one ds d rest)

-- one value more, at the end of the list
pub one_written : {A : Type 0} (value : ℕ → A → Data) (before now : List Value) (v : Value) (parts : List A) (at : ℕ) (part : A) (all : Items)
    → now ≡ before ++ v ∷ [] → view v ≡ value at part → part ≡ get_or parts at part → at < length parts
    → items_before (map view before) (values value at (drop at parts)) ≡ all
    → items_before (map view now) (values value (at + 1) (drop (at + 1) parts)) ≡ all
one_written value before now v parts at part all grown written here below earlier =
    let rest = values value (at + 1) (drop (at + 1) parts) in
    ap (λ vs. items_before (map view vs) rest) grown
    ∙ ap (λ ds. items_before ds rest) (map-append view before (v ∷ []))
    ∙ before_one (map view before) (view v) rest
    ∙ ap (λ d. items_before (map view before) (item d rest)) (written ∙ ap (value at) here)
    ∙ sym (ap (λ xs. items_before (map view before) (values value at xs)) (drop_more parts at part below))
    ∙ earlier

pub all_written : {A : Type 0} (value : ℕ → A → Data) (vs : List Value) (parts : List A) (at : ℕ) (all : Items) → length parts ≤ at
    → items_before (map view vs) (values value at (drop at parts)) ≡ all → items_of (map view vs) ≡ all
all_written value vs parts at all over earlier =
    sym (before_none (map view vs))
    ∙ sym (ap (λ xs. items_before (map view vs) (values value at xs)) (drop_of_length-le parts over))
    ∙ earlier
