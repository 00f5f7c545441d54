-- The least of some words.
use Rattle.std.proofs.Common.{◌≡◌, ℕ, ◌≤◌, ◌⊎◌, inl, inr, arith, refl, subst, sym, min}
use Rattle.std.proofs.lemmas.Bool.{cases_lt}
use Rattle.dpe_base.specs.declared.TheConstants.{EMPTY}
use Rattle.plan_space.specs.LeastWords.{IsLeastOf}

pub least_none : (P : ℕ → Type 0) → ((v : ℕ) → P v → ⊥) → IsLeastOf P EMPTY
least_none P none = record { one = inl refl; least = λ v h. absurd (none v h) }

pub least_alone : (x : ℕ) → IsLeastOf (λ v. v ≡ x) x
least_alone x = record { one = inr refl; least = λ v e. omega (arith, e) }

-- the same words have the same least
pub least_again : (P Q : ℕ → Type 0) (w : ℕ) → ((v : ℕ) → P v → Q v) → ((v : ℕ) → Q v → P v) → IsLeastOf P w → IsLeastOf Q w
least_again P Q w forth back l = record { one = elim l.one [ inl e ↦ inl e | inr h ↦ inr (forth w h) ]; least = λ v h. l.least v (back v h) }

-- the least of two kinds of words is the lesser of their least
pub least_both : (P Q R : ℕ → Type 0) (v w : ℕ) → IsLeastOf P v → IsLeastOf Q w → ((u : ℕ) → P u → R u) → ((u : ℕ) → Q u → R u) → ((u : ℕ) → R u → P u ⊎ Q u) → IsLeastOf R (min v w)
least_both P Q R v w a b first second either = record { one = one; least = least }
  where
    here : (x : ℕ) → min v w ≡ x → (x ≡ EMPTY) ⊎ R x → (min v w ≡ EMPTY) ⊎ R (min v w)
    here x e h = subst (λ y. (y ≡ EMPTY) ⊎ R y) (sym e) h

    one : (min v w ≡ EMPTY) ⊎ R (min v w)
    one =
        elim (cases_lt v w) [
          | inl l ↦ here v (omega arith) (elim a.one [ inl e ↦ inl e | inr h ↦ inr (first v h) ])
          | inr g ↦ here w (omega arith) (elim b.one [ inl e ↦ inl e | inr h ↦ inr (second w h) ])
        ]

    least : (u : ℕ) → R u → min v w ≤ u
    least u h = elim (either u h) [ inl x ↦ omega (arith, a.least u x) | inr x ↦ omega (arith, b.least u x) ]
