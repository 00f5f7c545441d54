-- What the masks of a graph say.
use Rattle.std.proofs.Common.{◌≡◌, ◌↔◌, ℕ, ◌<◌, inl, inr, arith, sym, ◌∙◌, subst, List, length, get_or, map}
use Rattle.std.proofs.lemmas.Grind.{same_number_lists}
use Rattle.std.proofs.lemmas.Bool.{cases_eq}
use Rattle.std.proofs.lemmas.List.FromFn.{length-map-range_with_len, get_or-map-range_with_len}
use Rattle.std.specs.List.{range_with_len}
use Rattle.dpe_base.specs.declared.TheConstants.{N_MAX}
use Rattle.dpe_base.specs.declared.query.Pred.{Pred}
use Rattle.dpe_base.specs.Sets.{Has, union, minus, single}
use Rattle.dpe_base.proofs.SetLaws.{empty_has, single_has, single_one, union_left, union_right, union_cases, minus_has, minus_left, minus_right}
use Rattle.dpe_base.proofs.NextSubset.{within_le}
use Rattle.join_graph.specs.Graphs.{adjacent_to, adjacency}

pub is_adjacency : (adjacent : List ℕ) (preds : List Pred) → length adjacent ≡ N_MAX → ((k : ℕ) → k < N_MAX → get_or adjacent k 0 ≡ adjacent_to preds k) → adjacent ≡ adjacency preds
unfolding adjacency
is_adjacency adjacent preds l h =
    same_number_lists adjacent (map (adjacent_to preds) (range_with_len 0 N_MAX)) (l ∙ sym (length-map-range_with_len (adjacent_to preds) 0 N_MAX))
    (λ k m. h k (omega arith) ∙ sym (get_or-map-range_with_len (adjacent_to preds) 0 N_MAX k k 0 (omega arith) (omega arith)))

-- the relations that are joined to a member of s outside rest
abbrev pub IsGathered : List ℕ → ℕ → ℕ → ℕ → Type 0
IsGathered adjacent s rest all =
    (t : ℕ) → Has all t ↔ ((k : ℕ) × Has s k × (Has rest k → ⊥) × Has (get_or adjacent k 0) t)

-- no member is gathered yet
pub gathered_none : (adjacent : List ℕ) (s all : ℕ) → all ≡ 0 → IsGathered adjacent s s all
gathered_none adjacent s all e t = (λ x. absurd (empty_has t (subst (λ (k : ℕ). Has k t) e x)), λ k. absurd (k.2 k.1))

-- one more member, with its neighbours
pub gathered_more : (adjacent : List ℕ) (s rest all r : ℕ) → IsGathered adjacent s rest all → Has s r → IsGathered adjacent s (minus rest (single r)) (union all (get_or adjacent r 0))
gathered_more adjacent s rest all r h m t = (
  λ x. elim (union_cases all (get_or adjacent r 0) t x) [
    | inl a ↦ (((h t).0 a).0, ((h t).0 a).1, (λ y. ((h t).0 a).2 (minus_left rest (single r) ((h t).0 a).0 y)), ((h t).0 a).3)
    | inr b ↦ (r, m, (λ y. minus_right rest (single r) r y (single_has r)), b)
  ],
  λ k. elim (cases_eq r k.0) [
    | inl same ↦ union_right all (get_or adjacent r 0) t (subst (λ (i : ℕ). Has (get_or adjacent i 0) t) (sym same) k.3)
    | inr other ↦ union_left all (get_or adjacent r 0) t ((h t).1 (k.0, k.1, (λ y. k.2 (minus_has rest (single r) k.0 y (λ z. other (single_one r k.0 z)))), k.3))
  ],
)

-- every member is gathered
pub gathered_all : (adjacent : List ℕ) (s rest all : ℕ) → IsGathered adjacent s rest all → rest ≡ 0 → (t : ℕ) → Has all t ↔ ((k : ℕ) × Has s k × Has (get_or adjacent k 0) t)
gathered_all adjacent s rest all h e t = (
  λ x. (((h t).0 x).0, ((h t).0 x).1, ((h t).0 x).3),
  λ k. (h t).1 (k.0, k.1, (λ y. empty_has k.0 (subst (λ (i : ℕ). Has i k.0) e y)), k.2),
)

-- a set without one of its members is a smaller number
pub one_fewer : (rest r : ℕ) → Has rest r → minus rest (single r) < rest
one_fewer rest r h =
    elim (cases_eq (minus rest (single r)) rest) [
      | inl same ↦ absurd (minus_right rest (single r) r (subst (λ (i : ℕ). Has i r) (sym same) h) (single_has r))
      | inr other ↦ omega (arith, within_le (minus rest (single r)) rest (λ k y. minus_left rest (single r) k y), other)
    ]
