-- A query of a sample is connected: each relation but the first is joined with an earlier one.
use Rattle.std.proofs.Common.{◌≡◌, ◌≢◌, ◌∙◌, ℕ, zero, suc, ◌+◌, ◌<◌, ◌==◌, ◌&&◌, Bool, true, false, List, [], ◌∷◌, ◌++◌, length, None, refl, sym, ap, arith, inl, inr}
use Rattle.std.proofs.lemmas.Bool.{eqb-true, and_parts}
use Rattle.std.proofs.lemmas.Bool.Decides.{eqb_tells}
use Rattle.std.proofs.lemmas.List.Folds.{list_any_none}
use Rattle.std.specs.Prelude.{find}
use Rattle.std.specs.List.{list_all, range_with_len}
use Rattle.dpe_base.specs.declared.query.Pred.{Pred}
use Rattle.dpe_base.specs.Queries.{JoinQuery, relations}
use Rattle.dpe_base.specs.Sets.{Has, member}
use Rattle.query_json.specs.Queries.Unreached.{first_unreached, is_closed, is_unreached, parts_from}
use Rattle.workload_gen.specs.declared.sample.Join.{Join}
use Rattle.workload_gen.proofs.Accepted.{Both, HasEnds}
use Rattle.workload_gen.proofs.Valid.{EachFrom, IsTreeJoin}

abbrev pub IsPredOf : Join → Pred → Type 0
IsPredOf join p = HasEnds join.left join.right p

-- no predicate leads out of the set
abbrev closed_by : ℕ → List Pred → Bool
closed_by s preds = list_all (λ p. member s p.low == member s p.high) preds

-- the set has relation i where it has the smaller ones
next_reached : (s i : ℕ) (join : Join) (p : Pred) → IsTreeJoin i join → IsPredOf join p → (member s p.low == member s p.high) ≡ true
    → ((k : ℕ) → k < i → Has s k) → Has s i
next_reached s i join p h e closed before =
    let low : p.low ≡ join.left = e.0 ∙ (let b = h.left in let r = h.right in omega arith) in
    let high : p.high ≡ i = e.1 ∙ (let b = h.left in let r = h.right in omega arith) in
    sym (ap (member s) high) ∙ sym (eqb-true (member s p.low) (member s p.high) closed) ∙ ap (member s) low ∙ before join.left h.left

up_to : (s i : ℕ) → ((k : ℕ) → k < i → Has s k) → Has s i → (k : ℕ) → k < i + 1 → Has s k
up_to s i before here k below = elim (eqb_tells k i) [
  | inl same ↦ ap (member s) same.1 ∙ here
  | inr other ↦ (let ne : k ≢ i = other.1 in before k (omega arith))
]

-- so it has all relations of the tree
tree_reached : (s i : ℕ) (tree extra : List Join) (preds : List Pred) → EachFrom IsTreeJoin i tree → Both IsPredOf (tree ++ extra) preds → closed_by s preds ≡ true
    → ((k : ℕ) → k < i → Has s k) → (k : ℕ) → k < i + length tree → Has s k
tree_reached s i [] extra preds h e closed before k below = before k (omega arith)
tree_reached s i (j ∷ tree) extra [] h e closed before k below = absurd e
tree_reached s i (j ∷ tree) extra (p ∷ preds) h e closed before k below =
    let here : Has s i = next_reached s i j p h.0 e.0 (and_parts _ _ closed).0 before in
    tree_reached s (i + 1) tree extra preds h.1 e.1 (and_parts _ _ closed).1 (up_to s i before here) k (omega arith)

not_all : (a b c : Bool) → (a ≡ true → b ≡ true → c ≡ true → ⊥) → (a && b && c) ≡ false
not_all true true true h = absurd (h refl refl refl)
not_all true true false h = refl
not_all true false c h = refl
not_all false b c h = refl

never_parted : (q : JoinQuery) (tree extra : List Join) → EachFrom IsTreeJoin 1 tree → Both IsPredOf (tree ++ extra) q.preds
    → (r : ℕ) → r < length tree + 1 → (s : ℕ) → parts_from q r s ≡ false
unfolding parts_from is_closed
never_parted q tree extra h e r below s = not_all (member s 0 == 1) (member s r == 0) (closed_by s q.preds) (λ first last closed.
    let none : member s r ≡ 0 = eqb-true (member s r) 0 last in
    let start : Has s 0 = eqb-true (member s 0) 1 first in
    let has : Has s r = tree_reached s 1 tree extra q.preds h e closed (λ k less. (let z : k ≡ 0 = omega arith in ap (member s) z ∙ start)) r (omega arith) in
    let bad : 0 ≡ 1 = sym none ∙ has in absurd cc)

reached : (q : JoinQuery) (tree extra : List Join) → EachFrom IsTreeJoin 1 tree → Both IsPredOf (tree ++ extra) q.preds
    → (r : ℕ) → r < length tree + 1 → is_unreached q r ≡ false
unfolding is_unreached
reached q tree extra h e r below = list_any_none (parts_from q r) _ (λ k d less. never_parted q tree extra h e r below _)

none_found : (p : ℕ → Bool) (a n : ℕ) → ((r : ℕ) → r < a + n → p r ≡ false) → find p (range_with_len a n) ≡ None
none_found p a zero h = refl
none_found p a (suc n) h = rw (h a (omega arith)) (none_found p (a + 1) n (λ r below. h r (omega arith)))

pub all_reached : (q : JoinQuery) (tree extra : List Join) → EachFrom IsTreeJoin 1 tree → Both IsPredOf (tree ++ extra) q.preds → relations q ≡ length tree + 1
    → first_unreached q ≡ None
unfolding first_unreached
all_reached q tree extra h e size = none_found (is_unreached q) 0 (relations q) (λ r below. reached q tree extra h e r (omega arith))
