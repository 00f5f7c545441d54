-- Looking up numbered parts by their names.
use Rattle.std.proofs.Common.{◌≡◌, ◌≢◌, ◌∙◌, ℕ, ◌+◌, ◌<◌, ◌≤◌, true, false, List, [], ◌∷◌, ◌++◌, length, Some, Ok, refl, sym, ap, arith, inl, inr}
use Rattle.std.proofs.Math.Dec.{eqb}
use Rattle.std.proofs.lemmas.Bool.Decides.{eqb_tells}
use Rattle.std.proofs.lemmas.List.Folds.{list_any-append}
use Rattle.std.proofs.lemmas.Iterator.Adapters.{position_from-zero}
use Rattle.std.specs.Prelude.{find, position}
use Rattle.std.specs.List.{list_any, position_from}
use Rattle.std.specs.Str.{bytes_eq}
use Rattle.query_json.specs.Names.{distinct_after, distinct_names}
use Rattle.workload_gen.proofs.FileOf.{numbered}
use Rattle.workload_gen.proofs.Valid.{Each}

-- different numbers below n have different names, and each part has its number's name
pub record IsNaming {A T : Type 0} (n : ℕ) (name : ℕ → List ℕ) (label : T → List ℕ) (make : ℕ → A → T) : Type 0 where
  pub named : (k : ℕ) (x : A) → label (make k x) ≡ name k
  pub differ : (i : ℕ) → i < n → (j : ℕ) → j < n → bytes_eq (name i) (name j) ≡ eqb i j

-- the test of a part by the name of k
at_number : {A T : Type 0} (n : ℕ) (name : ℕ → List ℕ) (label : T → List ℕ) (make : ℕ → A → T) → IsNaming n name label make
    → (k at : ℕ) → k < n → at < n → (x : A) → bytes_eq (name k) (label (make at x)) ≡ eqb k at
at_number n name label make h k at bk ba x = ap (bytes_eq (name k)) (h.named at x) ∙ h.differ k bk at ba

-- a part of the right number is found, whatever it holds
pub found : {A T : Type 0} (n : ℕ) (name : ℕ → List ℕ) (label : T → List ℕ) (make : ℕ → A → T) → IsNaming n name label make → (P : A → Type 0)
    → (k at : ℕ) (xs : List A) → at ≤ k → k < at + length xs → at + length xs ≤ n → Each P xs
    → (x : A) × (find (λ t. bytes_eq (name k) (label t)) (numbered make at xs) ≡ Some (make k x)) × P x
found n name label make h P k at [] over under fits each = absurd (omega arith)
found n name label make h P k at (x ∷ xs) over under fits each =
    elim (eqb_tells k at) [
      | inl same ↦
          let here : bytes_eq (name k) (label (make at x)) ≡ true = at_number n name label make h k at (omega arith) (omega arith) x ∙ same.0 in
          (x, rw (here, same.1) refl, each.0)
      | inr other ↦
          let ne : k ≢ at = other.1 in
          let here : bytes_eq (name k) (label (make at x)) ≡ false = at_number n name label make h k at (omega arith) (omega arith) x ∙ other.0 in
          let later = found n name label make h P k (at + 1) xs (omega arith) (omega arith) (omega arith) each.1 in
          (later.0, rw here later.1, later.2)
    ]

placed : {A T : Type 0} (n : ℕ) (name : ℕ → List ℕ) (label : T → List ℕ) (make : ℕ → A → T) → IsNaming n name label make
    → (k at : ℕ) (xs : List A) → at ≤ k → k < at + length xs → at + length xs ≤ n
    → position_from (λ t. bytes_eq (name k) (label t)) at (numbered make at xs) ≡ Some k
placed n name label make h k at [] over under fits = absurd (omega arith)
placed n name label make h k at (x ∷ xs) over under fits =
    elim (eqb_tells k at) [
      | inl same ↦
          let here : bytes_eq (name k) (label (make at x)) ≡ true = at_number n name label make h k at (omega arith) (omega arith) x ∙ same.0 in
          rw here (ap Some (sym same.1))
      | inr other ↦
          let ne : k ≢ at = other.1 in
          let here : bytes_eq (name k) (label (make at x)) ≡ false = at_number n name label make h k at (omega arith) (omega arith) x ∙ other.0 in
          rw here (placed n name label make h k (at + 1) xs (omega arith) (omega arith) (omega arith))
    ]

-- its place is its number
pub at_its_place : {A T : Type 0} (n : ℕ) (name : ℕ → List ℕ) (label : T → List ℕ) (make : ℕ → A → T) → IsNaming n name label make
    → (k : ℕ) (xs : List A) → k < length xs → length xs ≤ n → position (λ t. bytes_eq (name k) (label t)) (numbered make 0 xs) ≡ Some k
at_its_place n name label make h k xs within fits =
    position_from-zero (λ t. bytes_eq (name k) (label t)) (numbered make 0 xs) ∙ placed n name label make h k 0 xs (omega arith) (omega arith) (omega arith)

-- none of the names from `at` on was met
NoneMet : ℕ → (ℕ → List ℕ) → ℕ → List (List ℕ) → Type 0
NoneMet n name at met = (k : ℕ) → at ≤ k → k < n → list_any (bytes_eq (name k)) met ≡ false

distinct_from : {A T : Type 0} (n : ℕ) (name : ℕ → List ℕ) (label : T → List ℕ) (make : ℕ → A → T) → IsNaming n name label make
    → (at : ℕ) (xs : List A) (met : List (List ℕ)) → at + length xs ≤ n → NoneMet n name at met
    → (names : List (List ℕ)) × (distinct_after label met (numbered make at xs) ≡ Ok names)
unfolding NoneMet
distinct_from n name label make h at [] met fits none = (met, refl)
distinct_from n name label make h at (x ∷ xs) met fits none =
    let here : list_any (bytes_eq (label (make at x))) met ≡ false = ap (λ l. list_any (bytes_eq l) met) (h.named at x) ∙ none at (omega arith) (omega arith) in
    let later = distinct_from n name label make h (at + 1) xs (met ++ label (make at x) ∷ []) (omega arith) (λ k over under.
    let ne : k ≢ at = omega arith in
    let new : eqb k at ≡ false = elim (eqb_tells k at) [ inl same ↦ absurd (ne same.1) | inr other ↦ other.0 ] in
    let last : bytes_eq (name k) (label (make at x)) ≡ false = at_number n name label make h k at under (omega arith) x ∙ new in
    list_any-append (bytes_eq (name k)) met (label (make at x) ∷ []) ∙ rw (none k (omega arith) under, last) refl) in
    (later.0, rw here later.1)

pub distinct : {A T : Type 0} (n : ℕ) (name : ℕ → List ℕ) (label : T → List ℕ) (make : ℕ → A → T) → IsNaming n name label make
    → (xs : List A) → length xs ≤ n → (names : List (List ℕ)) × (distinct_names label (numbered make 0 xs) ≡ Ok names)
unfolding NoneMet
distinct n name label make h xs fits = distinct_from n name label make h 0 xs [] (omega arith) (λ k over under. refl)
