-- Offering words one after the other.
use Rattle.std.proofs.Common.{◌≡◌, ◌≢◌, ℕ, ◌+◌, ◌^◌, ◌<◌, ◌≤◌, ◌⊎◌, inl, inr, ⊎_elim, Bool, cond, ◌==◌, List, ◌∷◌, Contains, slice_index_or, refl, sym, ◌∙◌, subst, arith, eq-eqb, ne_eqb, IsTrue, false}
use mathlib.Core.Logic.{dite}
use native.Mathlib.Decide.{ℕ_discrete}
use Rattle.std.proofs.lemmas.Bool.{cases_order}
use Rattle.dpe_base.specs.declared.TheConstants.{EMPTY}
use Rattle.dpe_base.specs.Sets.{Has, Within, full}
use Rattle.dpe_base.specs.declared.TheConstants.{N_MAX}
use Rattle.std.proofs.Math.Pow.{pow_mono}
use Rattle.std.proofs.lemmas.Nat.{pow_pos}
use Rattle.dpe_base.proofs.SetLaws.{sets, member-above}
use Rattle.dpe_base.proofs.Members.{contains_head, contains_tail}
use Rattle.dpe_engine.specs.Engines.{SeededPlan, with_word}
use Rattle.reopt.specs.Offers.{HasOffered}

-- what an offer leaves
record IsOffer (words after : List (ℕ × ℕ)) (s w : ℕ) : Type 0 where
  pub grows : (b : ℕ × ℕ) → Contains words b → Contains after b
  pub stands : (w ≡ EMPTY) ⊎ Contains after (s, w)

offering : (words : List (ℕ × ℕ)) (s w : ℕ) → IsOffer words (with_word words s w) s w
offering words s w =
    let F : Bool → Type 0 = λ b. IsOffer words (cond b words ((s, w) ∷ words)) s w in
    dite (ℕ_discrete w EMPTY)
    (λ (e : w ≡ EMPTY). subst F (sym (eq-eqb w EMPTY e)) record { grows = λ b h. h; stands = inl e })
    (λ (ne : w ≢ EMPTY). subst F (sym (ne_eqb w EMPTY ne)) record { grows = contains_tail (s, w) words; stands = inr (contains_head (s, w) words) })

module _ (r : ℕ) (row : List ℕ) (before now : SeededPlan) (s : ℕ) (h : HasOffered r row before now s) where
  abbrev word : ℕ
  word = slice_index_or row s 0

  -- the next set is offered
  pub offers_next : (after : SeededPlan) (t w : ℕ) → t ≡ s → w ≡ word → after.plan ≡ now.plan → after.words ≡ with_word now.words t w → HasOffered r row before after (s + 1)
  offers_next after t w set is plan words =
      let F : ℕ → Type 0 = λ y. IsOffer now.words (with_word now.words y w) y w in
      let G : ℕ → Type 0 = λ y. IsOffer now.words (with_word now.words t w) t y in
      let H : List (ℕ × ℕ) → Type 0 = λ l. IsOffer now.words l s word in
      let K : ℕ → Type 0 = λ y. IsOffer now.words (with_word now.words t w) y word in
      let o : IsOffer now.words after.words s word = subst H (sym words) (subst K set (subst G is (offering now.words t w))) in
      record {
        plan = plan ∙ h.plan;
        offered = λ x some low none. elim (cases_order x s) [
          | inl e ↦ let P : ℕ → Type 0 = λ y. (slice_index_or row y 0 ≡ EMPTY) ⊎ Contains after.words (y, slice_index_or row y 0) in subst P (sym e) o.stands
          | inr l ↦ elim l [
            | inl l ↦ ⊎_elim (λ e. inl e) (λ c. inr (o.grows _ c)) (h.offered x some l none)
            | inr l ↦ absurd (omega (arith, l, low))
          ]
        ];
      }

  -- or it has the relation
  pub skips : Has s r → HasOffered r row before now (s + 1)
  skips has =
      record {
        plan = h.plan;
        offered = λ x some low none. elim (cases_order x s) [
          | inl e ↦ absurd (none (subst (λ y. Has y r) (sym e) has))
          | inr l ↦ elim l [
            | inl l ↦ h.offered x some l none
            | inr l ↦ absurd (omega (arith, l, low))
          ]
        ];
      }

-- ---- the numbers of the sets

pub full_next : (n : ℕ) → full n + 1 ≡ 2 ^ n
unfolding full
full_next n = omega (arith, pow_pos n)

pub number_within : (s n : ℕ) → s < 2 ^ n → Within s (full n)
number_within s n l r h = grind (arith, sets, member-above s n r l)

pub small_end : (n end : ℕ) → n ≤ N_MAX → end ≡ full n → end + 1 < 2 ^ 32
small_end n end few is = omega (arith, full_next n, pow_mono {i = n} {j = N_MAX} few)

-- a test that failed
pub not_both : (b : Bool) → b ≡ false → IsTrue b → ⊥
not_both b fails holds = cc
