-- Looking a name up among the labels of the items before.
use Rattle.std.proofs.Common.{◌≡◌, ◌∙◌, ℕ, suc, ◌+◌, ◌<◌, Bool, true, false, not, cond, ◌||◌, List, [], ◌∷◌, ◌++◌, length, drop, take, get_or, map, Option, Some, None, is_some, Result, Err, refl, sym, ap, arith, inl, inr}
use Rattle.std.specs.Prelude.{nat_lt, position}
use Rattle.std.specs.List.{list_any, position_or_len, prefix_len}
use Rattle.std.specs.Str.{bytes_eq}
use Rattle.std.proofs.lemmas.Bool.{cases_lt, le-ltb, lt-ltb}
use Rattle.std.proofs.lemmas.List.{drop_more, map_push, take_more}
use Rattle.query_json.specs.Names.{distinct_after}
use Rattle.query_json.proofs.Finds.{position_map}

both_more : (n m : ℕ) → nat_lt (1 + n) (suc m) ≡ nat_lt n m
both_more n m =
    elim (cases_lt n m) [
      | inl l ↦ lt-ltb (1 + n) (suc m) (omega (arith, l)) ∙ sym (lt-ltb n m l)
      | inr g ↦ le-ltb (1 + n) (suc m) (omega (arith, g)) ∙ sym (le-ltb n m g)
    ]

place_more : {X : Type 0} (p : X → Bool) (xs : List X) (b : Bool) → list_any p xs ≡ nat_lt (position_or_len p xs) (length xs)
    → (b || list_any p xs) ≡ nat_lt (cond (not b) (1 + prefix_len (λ y. not (p y)) xs) 0) (suc (length xs))
place_more p xs true h = sym (lt-ltb 0 (suc (length xs)) (omega arith))
place_more p xs false h = h ∙ sym (both_more (position_or_len p xs) (length xs))

any_place : {X : Type 0} (p : X → Bool) (xs : List X) → list_any p xs ≡ nat_lt (position_or_len p xs) (length xs)
any_place p [] = refl
any_place p (x ∷ xs) = place_more p xs (p x) (any_place p xs)

some_by : (b : Bool) (n : ℕ) → is_some (cond b (Some n) None) ≡ b
some_by true n = refl
some_by false n = refl

any_before : {T : Type 0} (label : T → List ℕ) (n : List ℕ) (ts : List T) (r : Option ℕ) → r ≡ position (λ t. bytes_eq n (label t)) ts
    → list_any (bytes_eq n) (map label ts) ≡ is_some r
any_before label n ts r is =
    any_place (bytes_eq n) (map label ts)
    ∙ sym (some_by (nat_lt (position_or_len (bytes_eq n) (map label ts)) (length (map label ts))) (position_or_len (bytes_eq n) (map label ts)))
    ∙ ap is_some (sym (is ∙ position_map (bytes_eq n) label ts))

module _ {T : Type 0} (label : T → List ℕ) (ts : List T) (i : ℕ) (t : T) (r : Option ℕ) (said : Result (List (List ℕ)) (List ℕ)) (lt : i < length ts) (is : t ≡ get_or ts i t) (found : r ≡ position (λ x. bytes_eq (label t) (label x)) (take i ts)) (so_far : distinct_after label (map label (take i ts)) (drop i ts) ≡ said) where
  seen : (b : Bool) → is_some r ≡ b → list_any (bytes_eq (label t)) (map label (take i ts)) ≡ b
  seen b e = any_before label (label t) (take i ts) r found ∙ e

  here : drop i ts ≡ t ∷ drop (i + 1) ts
  here = drop_more ts i t lt ∙ ap (λ x. x ∷ drop (i + 1) ts) (sym is)

  -- an item whose name was not met before
  pub one_apart : is_some r ≡ false → distinct_after label (map label (take (i + 1) ts)) (drop (i + 1) ts) ≡ said
  one_apart e =
      let one : distinct_after label (map label (take i ts)) (drop i ts) ≡ distinct_after label (map label (take i ts) ++ label t ∷ []) (drop (i + 1) ts) = rw (here, seen false e) refl in
      let before : take (i + 1) ts ≡ take i ts ++ t ∷ [] = take_more ts i t lt ∙ ap (λ x. take i ts ++ x ∷ []) (sym is) in
      ap (λ xs. distinct_after label (map label xs) (drop (i + 1) ts)) before ∙ rw map_push (sym one ∙ so_far)

  -- an item whose name was met
  pub name_again : is_some r ≡ true → said ≡ Err (label t)
  name_again e =
      let one : distinct_after label (map label (take i ts)) (drop i ts) ≡ Err (label t) = rw (here, seen true e) refl in
      sym so_far ∙ one
