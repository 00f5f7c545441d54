-- A pass refuses what its least refused member is refused for.
use Rattle.std.proofs.Common.{◌≡◌, ◌↔◌, ◌∙◌, ℕ, suc, zero, ◌+◌, ◌<◌, List, [], ◌∷◌, Result, Ok, Err, Some, slice_get, refl, sym, ap, subst, arith}
use Rattle.std.proofs.lemmas.Option.{same_Some}
use Rattle.query_json.specs.declared.file.QueryItem.{QueryItem}
use Rattle.query_json.specs.declared.file.Table.{Table}
use Rattle.query_json.specs.declared.refusal.QueryRefusal.{QueryRefusal}
use Rattle.query_json.specs.Answer.{◌>>=◌}
use Rattle.query_json.specs.Laws.{IsFirstRefused, RefusesTheLeastPlace}
use Rattle.query_json.specs.Queries.{all_of, apart, checked, ends_of, most_distinct, pred_of, rel_of, table_of}

-- the same of a pass that counts from a number
record IsFirstFrom {A B : Type 0} (f : ℕ → A → Result B QueryRefusal) (at : ℕ) (xs : List A) (why : QueryRefusal) (k : ℕ) : Type 0 where
  pub refused : (x : A) × (slice_get xs k ≡ Some x) × (f (at + k) x ≡ Err why)
  pub first : (i : ℕ) (x : A) → i < k → slice_get xs i ≡ Some x → (y : B) × (f (at + i) x ≡ Ok y)

none_at : {A : Type 0} (k : ℕ) (x : A) → slice_get {X = A} [] k ≡ Some x → ⊥
none_at zero x e = cc
none_at (suc k) x e = cc

pub err_same : {X : Type 0} (x y : QueryRefusal) → ◌≡◌ {A = Result X QueryRefusal} (Err x) (Err y) → x ≡ y
err_same x y e = cc

step : (at k : ℕ) → at + 1 + k ≡ at + suc k
step at k = omega arith

-- one member more in front, which isn't refused
in_front : {A B : Type 0} (f : ℕ → A → Result B QueryRefusal) (at : ℕ) (x : A) (xs : List A) (why : QueryRefusal) (y : B) (k : ℕ) → f at x ≡ Ok y → IsFirstFrom f (at + 1) xs why k → IsFirstFrom f at (x ∷ xs) why (suc k)
in_front {A} {B} f at x xs why y k ok rest =
    record {
      refused = (rest.refused.0, rest.refused.1, subst (λ n. f n rest.refused.0 ≡ Err why) (step at k) rest.refused.2);
      first = before;
    }
  where
    before : (i : ℕ) (z : A) → i < suc k → slice_get (x ∷ xs) i ≡ Some z → (w : B) × (f (at + i) z ≡ Ok w)
    before zero z lt is = (y, subst (λ n. f n z ≡ Ok y) (omega arith) (subst (λ u. f at u ≡ Ok y) (same_Some x z is) ok))
    before (suc i) z lt is =
        let w = rest.first i z (omega (arith, lt)) is in
        (w.0, subst (λ n. f n z ≡ Ok w.0) (step at i) w.1)

at_once : {A B : Type 0} (f : ℕ → A → Result B QueryRefusal) (at : ℕ) (x : A) (xs : List A) (why : QueryRefusal) → f at x ≡ Err why → IsFirstFrom f at (x ∷ xs) why 0
at_once f at x xs why e =
    record { refused = (x, refl, subst (λ n. f n x ≡ Err why) (omega arith) e); first = λ i z lt. absurd (omega (arith, lt)) }

pub rest_refused : {B : Type 0} (y : B) (said : Result (List B) QueryRefusal) (why : QueryRefusal) → (said >>= λ ys. Ok (y ∷ ys)) ≡ Err why → said ≡ Err why
rest_refused y (Ok ys) why e = absurd cc
rest_refused y (Err x) why e = ap Err (err_same x why e)

all_by : {A B : Type 0} (f : ℕ → A → Result B QueryRefusal) (at : ℕ) (x : A) (xs : List A) (why : QueryRefusal) → (all_of f (at + 1) xs ≡ Err why → (k : ℕ) × IsFirstFrom f (at + 1) xs why k)
    → (r : Result B QueryRefusal) → f at x ≡ r → (r >>= λ y. all_of f (at + 1) xs >>= λ ys. Ok (y ∷ ys)) ≡ Err why → (k : ℕ) × IsFirstFrom f at (x ∷ xs) why k
all_by f at x xs why later (Err z) is e = (0, at_once f at x xs why (is ∙ ap Err (err_same z why e)))
all_by f at x xs why later (Ok y) is e =
    let rest = later (rest_refused y (all_of f (at + 1) xs) why e) in
    (suc rest.0, in_front f at x xs why y rest.0 is rest.1)

all_found : {A B : Type 0} (f : ℕ → A → Result B QueryRefusal) (at : ℕ) (xs : List A) (why : QueryRefusal) → all_of f at xs ≡ Err why → (k : ℕ) × IsFirstFrom f at xs why k
all_found f at [] why e = absurd cc
all_found f at (x ∷ xs) why e = all_by f at x xs why (all_found f (at + 1) xs why) (f at x) refl e

behind : {A B : Type 0} (f : ℕ → A → Result B QueryRefusal) (at : ℕ) (x : A) (xs : List A) (why : QueryRefusal) (k : ℕ) → IsFirstFrom f at (x ∷ xs) why (suc k) → IsFirstFrom f (at + 1) xs why k
behind f at x xs why k h =
    record {
      refused = (h.refused.0, h.refused.1, subst (λ n. f n h.refused.0 ≡ Err why) (sym (step at k)) h.refused.2);
      first = λ i z lt is. let w = h.first (suc i) z (omega (arith, lt)) is in (w.0, subst (λ n. f n z ≡ Ok w.0) (sym (step at i)) w.1);
    }

head_ok : {A B : Type 0} (f : ℕ → A → Result B QueryRefusal) (at : ℕ) (x : A) (xs : List A) (why : QueryRefusal) (k : ℕ) → IsFirstFrom f at (x ∷ xs) why (suc k) → (y : B) × (f at x ≡ Ok y)
head_ok f at x xs why k h =
    let w = h.first 0 x (omega arith) refl in
    (w.0, subst (λ n. f n x ≡ Ok w.0) (omega arith) w.1)

head_err : {A B : Type 0} (f : ℕ → A → Result B QueryRefusal) (at : ℕ) (x : A) (xs : List A) (why : QueryRefusal) → IsFirstFrom f at (x ∷ xs) why 0 → f at x ≡ Err why
head_err f at x xs why h =
    subst (λ n. f n x ≡ Err why) (omega arith) (subst (λ u. f (at + 0) u ≡ Err why) (sym (same_Some x h.refused.0 h.refused.1)) h.refused.2)

all_said : {A B : Type 0} (f : ℕ → A → Result B QueryRefusal) (at : ℕ) (xs : List A) (why : QueryRefusal) (k : ℕ) → IsFirstFrom f at xs why k → all_of f at xs ≡ Err why
all_said f at [] why k h = absurd (none_at k h.refused.0 h.refused.1)
all_said f at (x ∷ xs) why zero h = rw (head_err f at x xs why h) refl
all_said f at (x ∷ xs) why (suc k) h =
    let ok = head_ok f at x xs why k h in
    rw (ok.1, all_said f (at + 1) xs why k (behind f at x xs why k h)) refl

checked_by : {A B : Type 0} (g : A → Result B QueryRefusal) (at : ℕ) (x : A) (xs : List A) (why : QueryRefusal) → ((checked g xs ≡ Err why) ↔ (all_of (λ n. g) (at + 1) xs ≡ Err why))
    → (r : Result B QueryRefusal) → g x ≡ r → (checked g (x ∷ xs) ≡ Err why) ↔ (all_of (λ n. g) at (x ∷ xs) ≡ Err why)
checked_by g at x xs why both (Err z) is = rw is (λ e. ap Err (err_same z why e), λ e. ap Err (err_same z why e))
checked_by g at x xs why both (Ok y) is = rw is (λ e. rw (both.0 e) refl, λ e. both.1 (rest_refused y (all_of (λ n. g) (at + 1) xs) why e))

checked_as_all : {A B : Type 0} (g : A → Result B QueryRefusal) (at : ℕ) (xs : List A) (why : QueryRefusal) → (checked g xs ≡ Err why) ↔ (all_of (λ n. g) at xs ≡ Err why)
checked_as_all g at [] why = (λ e. absurd cc, λ e. absurd cc)
checked_as_all g at (x ∷ xs) why = checked_by g at x xs why (checked_as_all g (at + 1) xs why) (g x) refl

from_zero : (n : ℕ) → 0 + n ≡ n
from_zero n = omega arith

counted : {A B : Type 0} (f : ℕ → A → Result B QueryRefusal) (xs : List A) (why : QueryRefusal) (k : ℕ) → IsFirstFrom f 0 xs why k → IsFirstRefused f xs why k
counted f xs why k h =
    record {
      refused = (h.refused.0, h.refused.1, subst (λ n. f n h.refused.0 ≡ Err why) (from_zero k) h.refused.2);
      first = λ i x lt is. let w = h.first i x lt is in (w.0, subst (λ n. f n x ≡ Ok w.0) (from_zero i) w.1);
    }

counted_from : {A B : Type 0} (f : ℕ → A → Result B QueryRefusal) (xs : List A) (why : QueryRefusal) (k : ℕ) → IsFirstRefused f xs why k → IsFirstFrom f 0 xs why k
counted_from f xs why k h =
    record {
      refused = (h.refused.0, h.refused.1, subst (λ n. f n h.refused.0 ≡ Err why) (sym (from_zero k)) h.refused.2);
      first = λ i x lt is. let w = h.first i x lt is in (w.0, subst (λ n. f n x ≡ Ok w.0) (sym (from_zero i)) w.1);
    }

pub least : {A B : Type 0} (f : ℕ → A → Result B QueryRefusal) (xs : List A) (why : QueryRefusal) → (all_of f 0 xs ≡ Err why) ↔ ((k : ℕ) × IsFirstRefused f xs why k)
least f xs why = (
  λ e. let h = all_found f 0 xs why e in (h.0, counted f xs why h.0 h.1),
  λ h. all_said f 0 xs why h.0 (counted_from f xs why h.0 h.1),
)

pub least_checked : {A B : Type 0} (g : A → Result B QueryRefusal) (xs : List A) (why : QueryRefusal) → (checked g xs ≡ Err why) ↔ ((k : ℕ) × IsFirstRefused (λ at. g) xs why k)
least_checked g xs why =
    let same = checked_as_all g 0 xs why in
    let both = least (λ at. g) xs why in
    (λ e. both.0 (same.0 e), λ h. same.1 (both.1 h))

pub least_places : (tables : List Table) (q : QueryItem) (why : QueryRefusal) → RefusesTheLeastPlace tables q why
least_places tables q why =
    record {
      known_tables = least (λ at. table_of tables) q.relations why;
      aliases = least (λ at. ends_of q.relations) q.joins why;
      columns = least (λ at. most_distinct tables q.relations) q.joins why;
      two_ends = least_checked apart q.joins why;
      filters = least (rel_of tables) q.relations why;
      selectivities = least (pred_of tables q.relations) q.joins why;
    }
