-- A written-out list is a part where the tests that it ascends compute.
use Rattle.std.proofs.Common.{eqb, ◌≡◌, ℕ, ◌<◌, ◌≤◌, refl, sym, ◌∙◌, subst, arith, Bool, true, List, [], ◌∷◌, length}
use Rattle.std.specs.Prelude.{slice_index}
use Rattle.std.specs.Ordering.{is_lt}
use Rattle.std.specs.declared.cmp.Ordering.{Ordering}
use Rattle.std.specs.declared.cmp.Ordering.TheVariants.{Less, Equal, Greater}
use Rattle.std.proofs.lemmas.Bool.{agree_below, agree_below_at, eqb-true}
use Rattle.dpe_base.specs.Sets.{size, list_order}
use Rattle.skip_vector.specs.Skips.{IsPart}

less : (o : Ordering) → is_lt o ≡ true → o ≡ Less
less Less h = refl
less Equal h = absurd (grind (arith))
less Greater h = absurd (grind (arith))

abbrev sized : ℕ → List ℕ → ℕ → Bool
sized k part i = eqb (size (slice_index part i)) k

abbrev precedes : List ℕ → ℕ → ℕ → Bool
precedes part j i = is_lt (list_order (slice_index part i) (slice_index part j))

abbrev ascends_to : List ℕ → ℕ → Bool
ascends_to part j = agree_below (precedes part j) (λ _. true) j

part_from : (part : List ℕ) (k : ℕ) → 1 ≤ k → agree_below (sized k part) (λ _. true) (length part) ≡ true → agree_below (ascends_to part) (λ _. true) (length part) ≡ true → IsPart part
part_from part k some sizes ascends =
    let has : (i : ℕ) → i < length part → size (slice_index part i) ≡ k = λ i b. eqb-true _ _ (agree_below_at (sized k part) (λ _. true) (length part) i sizes b) in
    record {
      some = λ i b. subst (λ (n : ℕ). 1 ≤ n) (sym (has i b)) some;
      one_size = λ i j b d. has i b ∙ sym (has j d);
      ascends = λ i j e b. less _ (agree_below_at (precedes part j) (λ _. true) j i (agree_below_at (ascends_to part) (λ _. true) (length part) j ascends b) e);
    }

pub four : (k a b c d : ℕ) (w x y z : ℕ) → w ≡ a → x ≡ b → y ≡ c → z ≡ d → 1 ≤ k → agree_below (sized k (a ∷ b ∷ c ∷ d ∷ [])) (λ _. true) 4 ≡ true → agree_below (ascends_to (a ∷ b ∷ c ∷ d ∷ [])) (λ _. true) 4 ≡ true → IsPart (w ∷ x ∷ y ∷ z ∷ [])
four k a b c d w x y z ew ex ey ez some sizes ascends = rw (ew, ex, ey, ez) (part_from (a ∷ b ∷ c ∷ d ∷ []) k some sizes ascends)

pub six : (k a b c d e f : ℕ) (u v w x y z : ℕ) → u ≡ a → v ≡ b → w ≡ c → x ≡ d → y ≡ e → z ≡ f → 1 ≤ k → agree_below (sized k (a ∷ b ∷ c ∷ d ∷ e ∷ f ∷ [])) (λ _. true) 6 ≡ true → agree_below (ascends_to (a ∷ b ∷ c ∷ d ∷ e ∷ f ∷ [])) (λ _. true) 6 ≡ true → IsPart (u ∷ v ∷ w ∷ x ∷ y ∷ z ∷ [])
six k a b c d e f u v w x y z eu ev ew ex ey ez some sizes ascends = rw (eu, ev, ew, ex, ey, ez) (part_from (a ∷ b ∷ c ∷ d ∷ e ∷ f ∷ []) k some sizes ascends)
