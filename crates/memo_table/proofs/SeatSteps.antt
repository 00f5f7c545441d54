-- The steps on seats keep the rule: a split, and a join.
use Rattle.std.proofs.Common.{◌≡◌, ℕ, ◌≤◌, ◌≢◌, List, [], ◌∷◌, Contains, set, sym, ap, ◌∙◌, subst, arith, inl, inr, ⊎_elim, le_refl}
use mathlib.Core.Option.{some, some-injective}
use mathlib.Core.Logic.{dite}
use native.Mathlib.Decide.{ℕ_discrete}
use lib.ListN.{get_elem?}
use Rattle.std.proofs.lemmas.List.Elements.{Contains-append_left, Contains-append_right, Contains-append_cases}
use Rattle.atomic_table.specs.Table.{Splits, Joins}
use Rattle.atomic_table.proofs.Lists.{at_set, at_snoc, set_here, set_else, at_longer}
use Rattle.memo_table.specs.declared.view.View.{View}
use Rattle.memo_table.specs.declared.view.TreeSpace.{TreeSpace}
use Rattle.memo_table.specs.Views.{spent_view, kept_part, given_part, joined_view}
use Rattle.memo_table.specs.Rule.{memo_word, counter, IsBound, IsLive, Kept}
use Rattle.dpe_base.proofs.Members.{contains_none}
use Rattle.memo_table.proofs.Counting.{at_inside, splitting, joining}
use Rattle.memo_table.proofs.Holding.{Fits, live_of, each_set, held_set}

module _ (model : ℕ) (space : TreeSpace) where
  pub splits : (d id : ℕ) (v : View) → 2 ≤ v.weight → d ≤ v.allowance → Splits (Kept model space) id v (kept_part d v) (given_part d v)
  splits d id v heavy may s k at =
      let live = live_of model space s.words v (k.views id v at) (omega arith) in
      let w : View = kept_part d v in
      let u : View = given_part d v in
      let wlive : IsLive model space s.words w = record { weight = omega arith; query = live.query; pairs = live.pairs; floor = live.floor; bounds = live.bounds } in
      let ulive : IsLive model space s.words u = record { weight = omega arith; query = live.query; pairs = live.pairs; floor = live.floor; bounds = live.bounds } in record {
        listed = k.listed;
        words = k.words;
        held = λ t ne.
            let h = held_set model space s.views id v w (t, memo_word s.words t) at (λ h. h) (k.held t ne) in
            record { seat = h.seat; view = h.view; at = at_longer (set s.views id w) (u ∷ []) h.seat h.view h.at; bound = h.bound };
        counts = splitting (counter s.words) d s.views id v k.counts at heavy may;
        views = λ other a at'. ⊎_elim (λ was. each_set model space s.words s.words s.views id w (le_refl _) (λ t. le_refl _) k.views wlive other a was)
            (λ (e : u ≡ a). let F : View → Type 0 = Fits model space s.words in subst F e (inr ulive))
            (at_snoc (set s.views id w) u a other at');
      }

  -- the bounds of a view that fits are bounds
  bounds_of : (ws : List ℕ) (w : View) → Fits model space ws w → (b : ℕ × ℕ) → Contains w.bounds b → IsBound model space ws b
  bounds_of ws w f b has = ⊎_elim (λ (e : w ≡ spent_view). let F : View → Type 0 = λ u. Contains u.bounds b in absurd (contains_none b (subst F e has))) (λ (l : IsLive model space ws w). l.bounds b has) f

  floor_of : (ws : List ℕ) (w : View) → Fits model space ws w → w.floor ≤ counter ws
  floor_of ws w f = ⊎_elim (λ (e : w ≡ spent_view). let q : w.floor ≡ 0 = ap (λ (u : View). u.floor) e in omega arith) (λ (l : IsLive model space ws w). l.floor) f

  pub joins : (id : ℕ) (v : View) (other : ℕ) (w : View) → 1 ≤ v.weight → Joins (Kept model space) id v other w (joined_view v w) spent_view
  joins id v other w heavy s k at ne at' =
      let u : View = joined_view v w in
      let live = live_of model space s.words v (k.views id v at) heavy in
      let was : get_elem? s.views other ≡ some w = sym (set_else s.views id other u ne) ∙ at' in
      let f = k.views other w was in
      let ulive : IsLive model space s.words u = record {
        weight = omega arith;
        query = live.query;
        pairs = live.pairs;
        floor = let a = live.floor in let b = floor_of s.words w f in omega arith;
        bounds = λ b has. ⊎_elim (λ h. live.bounds b h) (λ h. bounds_of s.words w f b h) (Contains-append_cases v.bounds w.bounds b has);
      } in
      let apart : id ≢ other = λ e. ne (sym e) in
      let there : get_elem? (set (set s.views id u) other spent_view) id ≡ some u = set_else (set s.views id u) other id spent_view apart ∙ set_here s.views id u (at_inside s.views id v at) in record {
        listed = k.listed;
        words = k.words;
        held = λ t n.
            let b : ℕ × ℕ = (t, memo_word s.words t) in
            let h = k.held t n in
            dite (ℕ_discrete h.seat other)
            (λ (e : h.seat ≡ other).
            let same : h.view ≡ w = some-injective h.view w (sym h.at ∙ (ap (λ (i : ℕ). get_elem? s.views i) e ∙ was)) in
            let has : Contains w.bounds b = let F : View → Type 0 = λ a. Contains a.bounds b in subst F same h.bound in
            record { seat = id; view = u; at = there; bound = Contains-append_right v.bounds w.bounds b has })
            (λ (ne' : h.seat ≢ other). dite (ℕ_discrete h.seat id)
            (λ (e : h.seat ≡ id).
            let same : h.view ≡ v = some-injective h.view v (sym h.at ∙ (ap (λ (i : ℕ). get_elem? s.views i) e ∙ at)) in
            let has : Contains v.bounds b = let F : View → Type 0 = λ a. Contains a.bounds b in subst F same h.bound in
            record { seat = id; view = u; at = there; bound = Contains-append_left v.bounds w.bounds b has })
            (λ (n' : h.seat ≢ id). record { seat = h.seat; view = h.view; at = set_else (set s.views id u) other h.seat spent_view ne' ∙ (set_else s.views id h.seat u n' ∙ h.at); bound = h.bound }));
        counts = joining (counter s.words) s.views id v other w k.counts at at';
        views = λ i a at''. ⊎_elim
            (λ (t : (i ≡ other) × (spent_view ≡ a)). inl (sym t.1))
            (λ (t : (i ≢ other) × (get_elem? (set s.views id u) i ≡ some a)). each_set model space s.words s.words s.views id u (le_refl _) (λ x. le_refl _) k.views ulive i a t.1)
            (at_set (set s.views id u) other i spent_view a at'');
      }
