-- What a seat keeps over a step.
use Rattle.std.proofs.Common.{◌≡◌, ℕ, ◌≤◌, ◌≢◌, ◌⊎◌, ◌==◌, Bool, cond, true, false, [], ◌++◌, Contains, sym, refl, ap, ◌∙◌, subst, ⊎_elim, eq-eqb, ne_eqb}
use mathlib.Core.Logic.{dite}
use native.Mathlib.Decide.{ℕ_discrete}
use Rattle.std.proofs.lemmas.List.Elements.{Contains-append_cases}
use Rattle.atomic_table.specs.declared.shared.Seat.{Seat}
use Rattle.dpe_base.specs.declared.TheConstants.{EMPTY}
use Rattle.dpe_base.specs.Queries.{relations}
use Rattle.dpe_base.specs.Sets.{Within, full}
use Rattle.join_tree.specs.Trees.{Made}
use Rattle.memo_table.specs.declared.view.View.{View}
use Rattle.memo_table.specs.Views.{with_bound, with_offer}
use Rattle.memo_table.specs.Seats.{IsMadeBound, BoundsAreMade, IsSeated}
use Rattle.dpe_base.proofs.Members.{contains_cases}

abbrev TableSeat : Type 0
TableSeat = Seat (Unit {0}) View

module _ (model : ℕ) where
  -- the seat after a step, by what the step tells
  pub seated : (s s' : TableSeat) (w : View) → IsSeated model s → s'.table_id ≡ s.table_id → s'.me.1 ≡ [] → s'.me.0 ≡ w → w.query ≡ s.me.0.query → 1 ≤ w.weight → BoundsAreMade model w → IsSeated model s'
  seated s s' w i table slots is query weight made =
      let same : s'.me.0.query ≡ s.me.0.query = ap (λ (v : View). v.query) is ∙ query in record {
        no_slot = slots;
        weight = let F : View → Type 0 = λ v. 1 ≤ v.weight in subst F (sym is) weight;
        width = rw (table, same) i.width;
        small = rw table i.small;
        bounds = let F : View → Type 0 = BoundsAreMade model in subst F (sym is) made;
      }

  pub made_with_bound : (v : View) (t x : ℕ) → BoundsAreMade model v → t ≢ 0 → Within t (full (relations v.query)) → Made model v.query v.pairs t x → BoundsAreMade model (with_bound v t x)
  made_with_bound v t x all some within made b has = ⊎_elim
      (λ (e : (t, x) ≡ b). let F : ℕ × ℕ → Type 0 = IsMadeBound model v.query v.pairs in subst F e record { some = some; within = within; made = made })
      (λ old. all b old)
      (contains_cases (t, x) v.bounds b has)

  pub made_with_offer : (v : View) (t x : ℕ) → BoundsAreMade model v → t ≢ 0 → Within t (full (relations v.query)) → (x ≡ EMPTY) ⊎ Made model v.query v.pairs t x → BoundsAreMade model (with_offer v t x)
  made_with_offer v t x all some within word =
      let F : Bool → Type 0 = λ b. BoundsAreMade model (cond b v (with_bound v t x)) in
      dite (ℕ_discrete x EMPTY)
      (λ (e : x ≡ EMPTY). subst F (sym (eq-eqb x EMPTY e)) all)
      (λ (ne : x ≢ EMPTY). subst F (sym (ne_eqb x EMPTY ne)) (made_with_bound v t x all some within (⊎_elim (λ e. absurd (ne e)) (λ m. m) word)))

  pub made_joined : (v w : View) → BoundsAreMade model v → BoundsAreMade model w → w.query ≡ v.query → w.pairs ≡ v.pairs
      → (b : ℕ × ℕ) → Contains (v.bounds ++ w.bounds) b → IsMadeBound model v.query v.pairs b
  made_joined v w all also query pairs b has = ⊎_elim
      (λ h. all b h)
      (λ h. rw (← query, ← pairs) (also b h))
      (Contains-append_cases v.bounds w.bounds b has)

abbrev pub offer_if : View → ℕ → ℕ → Bool → View
offer_if v t x b = cond b v (with_bound v t x)

-- an offer changes nothing but the bounds
pub offer_keeps : (v : View) (t x : ℕ) → ((with_offer v t x).query ≡ v.query) × ((with_offer v t x).pairs ≡ v.pairs) × ((with_offer v t x).weight ≡ v.weight)
offer_keeps v t x = by_cases (x == EMPTY)
  where
    by_cases : (b : Bool) → ((offer_if v t x b).query ≡ v.query) × ((offer_if v t x b).pairs ≡ v.pairs) × ((offer_if v t x b).weight ≡ v.weight)
    by_cases true = (refl, refl, refl)
    by_cases false = (refl, refl, refl)
