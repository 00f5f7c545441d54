-- What a step of one seat leaves of the rule, whatever word it is on.
use Rattle.std.proofs.Common.{◌≡◌, ℕ, ◌≤◌, ◌≢◌, ◌⊎◌, List, Contains, set, get_or, sym, ap, ◌∙◌, subst, arith, inl, inr, ⊎_elim, le_refl}
use mathlib.Core.Option.{some, some-injective}
use mathlib.Core.Logic.{dite}
use native.Mathlib.Decide.{ℕ_discrete}
use lib.ListN.{get_elem?}
use Rattle.std.proofs.lemmas.List.{set-get_or}
use Rattle.atomic_table.proofs.Lists.{at_set, set_here, set_else}
use Rattle.dpe_base.specs.declared.TheConstants.{WEIGHT}
use Rattle.memo_table.specs.declared.view.View.{View}
use Rattle.memo_table.specs.declared.view.TreeSpace.{TreeSpace}
use Rattle.memo_table.specs.Views.{spent_view}
use Rattle.memo_table.specs.Rule.{TableState, memo_word, counter, Counts, IsHeld, IsLive, AreMemoWords, Kept}
use Rattle.memo_table.proofs.Counting.{at_inside, weight_left}

module _ (model : ℕ) (space : TreeSpace) where
  abbrev pub Fits : List ℕ → View → Type 0
  Fits ws v = (v ≡ spent_view) ⊎ IsLive model space ws v

  pub live_of : (ws : List ℕ) (v : View) → Fits ws v → 1 ≤ v.weight → IsLive model space ws v
  live_of ws v f heavy = ⊎_elim (λ (e : v ≡ spent_view). let w : v.weight ≡ 0 = ap (λ (u : View). u.weight) e in absurd (omega arith)) (λ l. l) f

  -- what a view that does not move knows stays true
  still : (ws ws' : List ℕ) (v : View) → counter ws ≤ counter ws' → ((t : ℕ) → memo_word ws' t ≤ memo_word ws t) → Fits ws v → Fits ws' v
  still ws ws' v up down f = ⊎_elim (λ e. inl e)
      (λ (l : IsLive model space ws v). inr record {
        weight = l.weight;
        query = l.query;
        pairs = l.pairs;
        floor = let g = l.floor in omega arith;
        bounds = λ b h. let g = l.bounds b h in record { is = g.is; reached = let d = down b.0 in let r = g.reached in omega arith };
      })
      f

  pub each_set : (ws ws' : List ℕ) (views : List View) (id : ℕ) (w : View) → counter ws ≤ counter ws' → ((t : ℕ) → memo_word ws' t ≤ memo_word ws t)
      → ((other : ℕ) (v : View) → get_elem? views other ≡ some v → Fits ws v) → IsLive model space ws' w
      → (other : ℕ) (v : View) → get_elem? (set views id w) other ≡ some v → Fits ws' v
  each_set ws ws' views id w up down each live other v at = ⊎_elim
      (λ (t : (other ≡ id) × (w ≡ v)). let F : View → Type 0 = Fits ws' in subst F t.1 (inr live))
      (λ (t : (other ≢ id) × (get_elem? views other ≡ some v)). still ws ws' v up down (each other v t.1))
      (at_set views id other w v at)

  -- a bound that some view has stays, where the one that moves only gains bounds
  pub held_set : (views : List View) (id : ℕ) (v w : View) (b : ℕ × ℕ) → get_elem? views id ≡ some v → (Contains v.bounds b → Contains w.bounds b) → IsHeld views b → IsHeld (set views id w) b
  held_set views id v w b at grow h = dite (ℕ_discrete h.seat id)
      (λ (e : h.seat ≡ id).
      let same : h.view ≡ v = some-injective h.view v (sym h.at ∙ (ap (λ (i : ℕ). get_elem? views i) e ∙ at)) in
      let has : Contains v.bounds b = let F : View → Type 0 = λ u. Contains u.bounds b in subst F same h.bound in
      record { seat = id; view = w; at = set_here views id w (at_inside views id v at); bound = grow has })
      (λ (ne : h.seat ≢ id). record { seat = h.seat; view = h.view; at = set_else views id h.seat w ne ∙ h.at; bound = h.bound })

  -- a step on a word, by a view that only gains bounds
  pub moved : (s : TableState) (i n id : ℕ) (v w : View) → Kept model space s → get_elem? s.views id ≡ some v
      → counter s.words ≤ counter (set s.words i n) → ((t : ℕ) → memo_word (set s.words i n) t ≤ memo_word s.words t) → AreMemoWords model space (set s.words i n)
      → ((t : ℕ) → (memo_word (set s.words i n) t ≡ memo_word s.words t) ⊎ Contains w.bounds (t, memo_word (set s.words i n) t))
      → ((b : ℕ × ℕ) → Contains v.bounds b → Contains w.bounds b) → IsLive model space (set s.words i n) w → Counts (counter (set s.words i n)) (set s.views id w)
      → Kept model space record { words = set s.words i n; homes = s.homes; views = set s.views id w }
  moved s i n id v w k at up down memo cover grow live counts = record {
    listed = k.listed;
    words = memo;
    held = λ t ne. ⊎_elim
        (λ (e : memo_word (set s.words i n) t ≡ memo_word s.words t).
        let F : ℕ → Type 0 = λ x. IsHeld (set s.views id w) (t, x) in
        subst F (sym e) (held_set s.views id v w (t, memo_word s.words t) at (grow (t, memo_word s.words t)) (k.held t (λ was. ne (e ∙ was)))))
        (λ h. record { seat = id; view = w; at = set_here s.views id w (at_inside s.views id v at); bound = h })
        (cover t);
    counts = counts;
    views = each_set s.words (set s.words i n) s.views id w up down k.views live;
  }

  -- the same where no word changes
  pub turned : (s : TableState) (id : ℕ) (v w : View) → Kept model space s → get_elem? s.views id ≡ some v → ((b : ℕ × ℕ) → Contains v.bounds b → Contains w.bounds b)
      → IsLive model space s.words w → Counts (counter s.words) (set s.views id w) → (i : ℕ)
      → Kept model space record { words = set s.words i (get_or s.words i 0); homes = s.homes; views = set s.views id w }
  turned s id v w k at grow live counts i =
      let F : List ℕ → Type 0 = λ ws. Kept model space record { words = ws; homes = s.homes; views = set s.views id w } in
      subst F (sym (set-get_or s.words i 0)) record {
        listed = k.listed;
        words = k.words;
        held = λ t ne. held_set s.views id v w (t, memo_word s.words t) at (grow (t, memo_word s.words t)) (k.held t ne);
        counts = counts;
        views = each_set s.words s.words s.views id w (le_refl _) (λ t. le_refl _) k.views live;
      }

  -- who has the whole weight finds each other view spent
  pub others_spent : (s : TableState) (id : ℕ) (v : View) → Kept model space s → get_elem? s.views id ≡ some v → v.weight ≡ WEIGHT → (other : ℕ) (w : View) → other ≢ id → get_elem? s.views other ≡ some w → w ≡ spent_view
  others_spent s id v k at all other w ne at' = ⊎_elim (λ e. e)
      (λ (l : IsLive model space s.words w). let h = weight_left (counter s.words) s.views id other v w k.counts at all ne at' in let q = l.weight in absurd (omega arith))
      (k.views other w at')
