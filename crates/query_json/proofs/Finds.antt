-- Looking a name up among the labels of a list.
use Rattle.std.proofs.Common.{◌≡◌, ◌∙◌, ℕ, ◌+◌, Bool, true, not, cond, ltb, List, [], ◌∷◌, length, map, Option, Some, None, slice_get, get_or, is_some, IfSome, option_and_then, option_map, Bor, refl, sym, ap, inl, inr}
use Rattle.std.specs.Prelude.{position, find}
use Rattle.std.specs.Str.{bytes_eq}
use Rattle.std.specs.List.{prefix_len, position_or_len}
use Rattle.std.proofs.lemmas.Bool.{cases_lt, le-ltb, lt-ltb, ltb-false, ltb-true}
use Rattle.std.proofs.lemmas.List.{length-map}
use Rattle.std.proofs.lemmas.List.Folds.{find_at}
use Rattle.std.proofs.lemmas.Option.{slice_get-map, slice_get_past, slice_get_read}

prefix_map : {X Y : Type 0} (p : Y → Bool) (f : X → Y) (xs : List X) → prefix_len (λ x. p (f x)) xs ≡ prefix_len p (map f xs)
prefix_map p f [] = refl
prefix_map p f (x ∷ xs) = ap (λ n. cond (p (f x)) (1 + n) 0) (prefix_map p f xs)

-- a look-up of the elements is one of their labels
pub position_map : {X Y : Type 0} (p : Y → Bool) (f : X → Y) (xs : List X) → position (λ x. p (f x)) xs ≡ position p (map f xs)
position_map p f xs = rw (prefix_map (λ y. not (p y)) f xs, length-map) refl

pub find_by : {X : Type 0} (q : X → Bool) (xs : List X) → find q xs ≡ option_and_then (slice_get xs) (position q xs)
find_by q xs =
    elim (cases_lt (position_or_len q xs) (length xs)) [
      | inl within ↦ find_at q xs ∙ rw (lt-ltb _ _ within) refl
      | inr past ↦ find_at q xs ∙ slice_get_past xs _ past ∙ rw (le-ltb _ _ past) refl
    ]

-- the element of a label stands at the label's place
pub find_label : {X Y : Type 0} (p : Y → Bool) (f : X → Y) (xs : List X) → find (λ x. p (f x)) xs ≡ option_and_then (slice_get xs) (position p (map f xs))
find_label p f xs = find_by (λ x. p (f x)) xs ∙ ap (option_and_then (slice_get xs)) (position_map p f xs)

-- what `get` of a slice gives
pub got : {X : Type 0} (xs : List X) (i : ℕ) (r : Option (Bor X)) → is_some r ≡ ltb i (length xs) → IfSome r (λ x. x.now ≡ get_or xs i x.now) → option_map (λ x. x.now) r ≡ slice_get xs i
got xs i None e h = sym (slice_get_past xs i (ltb-false _ _ (sym e)))
got xs i (Some x) e h = sym (slice_get_read xs (length xs) i x.now refl (ltb-true _ _ (sym e)) h)

-- the element of a name, by the place that the keys give
pub find_key : {X : Type 0} (f : X → List ℕ) (xs : List X) (keys : List (List ℕ)) (n : List ℕ) (o : Option ℕ) → keys ≡ map f xs → o ≡ position (bytes_eq n) keys → find (λ x. bytes_eq n (f x)) xs ≡ option_and_then (slice_get xs) o
find_key f xs keys n o same at = find_label (bytes_eq n) f xs ∙ ap (option_and_then (slice_get xs)) (ap (position (bytes_eq n)) (sym same) ∙ sym at)

-- the place of a name is the one that the keys give
pub position_key : {X : Type 0} (f : X → List ℕ) (xs : List X) (keys : List (List ℕ)) (n : List ℕ) (o : Option ℕ) → keys ≡ map f xs → o ≡ position (bytes_eq n) keys → position (λ x. bytes_eq n (f x)) xs ≡ o
position_key f xs keys n o same at = position_map (bytes_eq n) f xs ∙ ap (position (bytes_eq n)) (sym same) ∙ sym at

behind_mapped : {X Y Z : Type 0} (f : X → Y) (g : Y → Option Z) (o : Option X) (y : Y) → option_map f o ≡ Some y → option_and_then (λ x. g (f x)) o ≡ g y
behind_mapped f g None y e = absurd cc
behind_mapped f g (Some x) y e = let z : f x ≡ y = cc in ap g z

-- what is found at a place of the mapped list is found behind the element
pub behind_place : {X Y Z : Type 0} (f : X → Y) (g : Y → Option Z) (xs : List X) (ys : List Y) (i : ℕ) (y : Y) → ys ≡ map f xs → true ≡ ltb i (length ys) → y ≡ get_or ys i y → option_and_then (λ x. g (f x)) (slice_get xs i) ≡ g y
behind_place f g xs ys i y same within is =
    behind_mapped f g (slice_get xs i) y (sym (slice_get-map f xs i) ∙ ap (λ l. slice_get l i) (sym same) ∙ slice_get_read ys (length ys) i y refl (ltb-true _ _ (sym within)) is)

-- the same of the list itself
pub behind_element : {X Z : Type 0} (g : X → Option Z) (xs : List X) (i : ℕ) (x : X) → true ≡ ltb i (length xs) → x ≡ get_or xs i x → option_and_then g (slice_get xs i) ≡ g x
behind_element g xs i x within is = ap (option_and_then g) (slice_get_read xs (length xs) i x refl (ltb-true _ _ (sym within)) is)
