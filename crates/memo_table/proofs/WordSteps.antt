-- The steps on a memo word keep the rule: a load, and a fetch_min.
use Rattle.std.proofs.Common.{◌≡◌, ℕ, ◌+◌, ◌^◌, ◌<◌, ◌≤◌, ◌≢◌, ◌⊎◌, min, Bool, cond, List, Contains, length, set, get_or, sym, refl, ap, ◌∙◌, subst, arith, inl, inr, ⊎_elim, length-set, le_refl, eq-eqb, ne_eqb}
use mathlib.Core.Option.{none, some}
use mathlib.Core.Logic.{dite}
use native.Mathlib.Decide.{ℕ_discrete, dec_le}
use lib.ListN.{get_elem?}
use Rattle.std.proofs.lemmas.List.{get_or_default}
use Rattle.atomic_table.specs.Table.{step, keeps, Allows}
use Rattle.dpe_base.specs.declared.TheConstants.{EMPTY}
use Rattle.dpe_base.specs.Queries.{relations}
use Rattle.dpe_base.specs.Sets.{Within, full}
use Rattle.dpe_base.proofs.SizeLaws.{full_below}
use Rattle.join_tree.specs.Trees.{Made, IsEmptyOrMade}
use Rattle.memo_table.specs.declared.view.View.{View}
use Rattle.memo_table.specs.declared.view.TreeSpace.{TreeSpace}
use Rattle.memo_table.specs.Views.{with_bound, with_offer}
use Rattle.memo_table.specs.Rule.{TableState, memo_word, counter, Counts, IsBound, IsLive, IsTreeSpace, AreMemoWords, Kept}
use Rattle.memo_table.specs.Steps.{SeatState, LoadsWord, load_tells, offer_tells}
use Rattle.dpe_base.proofs.Members.{contains_head, contains_tail, contains_cases}
use Rattle.memo_table.proofs.Counting.{staying}
use Rattle.memo_table.proofs.Holding.{live_of, moved, turned}
use Rattle.memo_table.proofs.MemoWords.{counter_beside, word_here, word_else}
use Rattle.memo_table.proofs.TreeWords.{made_below}

module _ (model : ℕ) (space : TreeSpace) where
  -- the word of a set that a live view has a bound of
  found : (ws : List ℕ) (v : View) (t y : ℕ) → IsTreeSpace space → AreMemoWords model space ws → IsLive model space ws v → Contains v.bounds (t, y)
      → (t + 1 < length ws) × (memo_word ws t ≡ get_or ws (t + 1) 0) × Made model space.query space.pairs t (memo_word ws t) × (memo_word ws t < EMPTY)
  found ws v t y is memo live h =
      let g = live.bounds (t, y) h in
      let inside : t + 1 < length ws = let w = memo.width in let i = full_below t (relations space.query) g.is.within in omega arith in
      let low : memo_word ws t < EMPTY = let r = g.reached in let m = made_below model space is t y g.is.made in omega arith in (
        inside,
        get_or_default ws (t + 1) EMPTY 0 inside,
        ⊎_elim (λ (e : memo_word ws t ≡ EMPTY). absurd (omega arith)) (λ m. m) (memo.made t),
        low,
      )

  loading : (s : TableState) (v : View) (t y : ℕ) → Kept model space s → IsLive model space s.words v → Contains v.bounds (t, y)
      → IsLive model space s.words (with_bound v t (memo_word s.words t))
  loading s v t y k live h = let f = found s.words v t y k.listed k.words live h in let g = live.bounds (t, y) h in record {
    weight = live.weight;
    query = live.query;
    pairs = live.pairs;
    floor = live.floor;
    bounds = λ b has. ⊎_elim
        (λ (e : (t, memo_word s.words t) ≡ b).
        let F : ℕ × ℕ → Type 0 = IsBound model space s.words in
        subst F e record { is = record { some = g.is.some; within = g.is.within; made = f.2 }; reached = le_refl _ })
        (λ old. live.bounds b old)
        (contains_cases (t, memo_word s.words t) v.bounds b has);
  }

  pub loads : (slots id : ℕ) (me : SeatState) (t y : ℕ) → 1 ≤ me.0.weight → Contains me.0.bounds (t, y)
      → Allows (Kept model space) slots id me (t + 1) (λ n. n) (load_tells model (step slots (t + 1) 0 0 none) me)
  loads slots id me t y heavy h s k home at small =
      let v : View = me.0 in
      let live = live_of model space s.words v (k.views id v at) heavy in
      let f = found s.words v t y k.listed k.words live h in
      let x : ℕ = memo_word s.words t in
      let w : View = with_bound v t x in
      let n : ℕ = get_or s.words (t + 1) 0 in
      let told : (u : ℕ) → t + 1 ≡ u + 1 → LoadsWord model u v n w =
      λ u e. let same : t ≡ u = omega arith in
      let F : ℕ → Type 0 = λ u. LoadsWord model u v n w in
      subst F same record {
        view = ap (with_bound v t) f.1;
        made = let G : ℕ → Type 0 = λ a. Made model v.query v.pairs t a in subst G f.1 (rw (live.query, live.pairs) f.2);
        some = let q : x ≡ n = f.1 in let l = f.3 in omega arith;
        least = λ b has. let r = (live.bounds (t, b) has).reached in let q : x ≡ n = f.1 in omega arith;
      } in (
        w,
        keeps,
        tt,
        turned model space s id v w k at (λ b has. contains_tail (t, x) v.bounds b has) (loading s v t y k live h) (staying (counter s.words) s.views id v w k.counts at refl refl refl) (t + 1),
        (refl, told),
      )

  min_is : (a b : ℕ) → ((a ≤ b) × (min a b ≡ a)) ⊎ ((b ≤ a) × (min a b ≡ b))
  min_is a b = dec_elim (dec_le a b)
    where
      dec_elim : Dec (a ≤ b) → ((a ≤ b) × (min a b ≡ a)) ⊎ ((b ≤ a) × (min a b ≡ b))
      dec_elim (yes d) = inl (d, omega arith)
      dec_elim (no d) = inr (omega arith, omega arith)

  -- the words after a fetch_min
  module _ (s : TableState) (t w : ℕ) (k : Kept model space s) (some' : t ≢ 0) (within : Within t (full (relations space.query))) (word : IsEmptyOrMade model space.query space.pairs t w) where
    abbrev n : ℕ
    n = get_or s.words (t + 1) 0

    abbrev lowered : List ℕ
    lowered = set s.words (t + 1) (min n w)

    wide : t + 1 < length s.words
    wide = let h = k.words.width in let i = full_below t (relations space.query) within in omega arith

    was : memo_word s.words t ≡ n
    was = get_or_default s.words (t + 1) EMPTY 0 wide

    now : memo_word lowered t ≡ min n w
    now = word_here s.words (min n w) t wide

    lower : (u : ℕ) → memo_word lowered u ≤ memo_word s.words u
    lower u = dite (ℕ_discrete u t)
        (λ (e : u ≡ t). let F : ℕ → Type 0 = λ a. memo_word lowered a ≤ memo_word s.words a in let p = now in let q = was in subst F (sym e) (omega arith))
        (λ (ne : u ≢ t). let p = word_else s.words (min n w) t u ne in omega arith)

    memo : AreMemoWords model space lowered
    memo = record {
      width = length-set s.words (t + 1) (min n w) ∙ k.words.width;
      none = word_else s.words (min n w) t 0 (λ e. omega arith) ∙ k.words.none;
      made = λ u. dite (ℕ_discrete u t)
          (λ (e : u ≡ t).
          let F : ℕ → Type 0 = λ a. IsEmptyOrMade model space.query space.pairs a (memo_word lowered a) in
          let G : ℕ → Type 0 = IsEmptyOrMade model space.query space.pairs t in
          subst F (sym e) (subst G (sym now) (⊎_elim (λ (h : (n ≤ w) × (min n w ≡ n)). subst G (was ∙ sym h.1) (k.words.made t)) (λ (h : (w ≤ n) × (min n w ≡ w)). subst G (sym h.1) word) (min_is n w))))
          (λ (ne : u ≢ t). let G : ℕ → Type 0 = IsEmptyOrMade model space.query space.pairs u in subst G (sym (word_else s.words (min n w) t u ne)) (k.words.made u));
    }

    up : counter s.words ≤ counter lowered
    up = let e = counter_beside s.words (min n w) t in omega arith

    -- where the word is EMPTY, nothing changes
    empties : (id : ℕ) (v : View) → get_elem? s.views id ≡ some v → IsLive model space s.words v → n < 2 ^ 64 → w ≡ EMPTY
        → Kept model space record { words = lowered; homes = s.homes; views = set s.views id v }
    empties id v at live small e =
        let same : min n w ≡ n = omega arith in
        let F : ℕ → Type 0 = λ a. Kept model space record { words = set s.words (t + 1) a; homes = s.homes; views = set s.views id v } in
        subst F (sym same) (turned model space s id v v k at (λ b h. h) live (staying (counter s.words) s.views id v v k.counts at refl refl refl) (t + 1))

    lowers : (id : ℕ) (v : View) → get_elem? s.views id ≡ some v → IsLive model space s.words v → w ≢ EMPTY
        → Kept model space record { words = lowered; homes = s.homes; views = set s.views id (with_bound v t w) }
    lowers id v at live ne =
        let made : Made model space.query space.pairs t w = ⊎_elim (λ e. absurd (ne e)) (λ m. m) word in
        let cover : (u : ℕ) → (memo_word lowered u ≡ memo_word s.words u) ⊎ Contains (with_bound v t w).bounds (u, memo_word lowered u) = λ u. dite (ℕ_discrete u t)
        (λ (e : u ≡ t).
        let F : ℕ → Type 0 = λ a. (memo_word lowered a ≡ memo_word s.words a) ⊎ Contains (with_bound v t w).bounds (a, memo_word lowered a) in
        subst F (sym e) (⊎_elim
        (λ (h : (n ≤ w) × (min n w ≡ n)). inl (now ∙ (h.1 ∙ sym was)))
        (λ (h : (w ≤ n) × (min n w ≡ w)).
        let G : ℕ → Type 0 = λ a. Contains (with_bound v t w).bounds (t, a) in
        inr (subst G (sym (now ∙ h.1)) (contains_head (t, w) v.bounds)))
        (min_is n w)))
        (λ (ne' : u ≢ t). inl (word_else s.words (min n w) t u ne')) in
        let live' : IsLive model space lowered (with_bound v t w) = record {
          weight = live.weight;
          query = live.query;
          pairs = live.pairs;
          floor = let f = live.floor in let e = counter_beside s.words (min n w) t in omega arith;
          bounds = λ b has. ⊎_elim
              (λ (e : (t, w) ≡ b).
              let F : ℕ × ℕ → Type 0 = IsBound model space lowered in
              subst F e record { is = record { some = some'; within = within; made = made }; reached = let p = now in omega arith })
              (λ old. let g = live.bounds b old in record { is = g.is; reached = let d = lower b.0 in let r = g.reached in omega arith })
              (contains_cases (t, w) v.bounds b has);
        } in
        moved model space s (t + 1) (min n w) id v (with_bound v t w) k at up lower memo cover (λ b h. contains_tail (t, w) v.bounds b h) live'
        (let F : ℕ → Type 0 = λ a. Counts a (set s.views id (with_bound v t w)) in
        subst F (sym (counter_beside s.words (min n w) t)) (staying (counter s.words) s.views id v (with_bound v t w) k.counts at refl refl refl))

  pub offers : (slots id : ℕ) (me : SeatState) (t w : ℕ) → 1 ≤ me.0.weight → t ≢ 0 → Within t (full (relations space.query)) → IsEmptyOrMade model space.query space.pairs t w
      → Allows (Kept model space) slots id me (t + 1) (λ n. min n w) (offer_tells (step slots (t + 1) w 0 none) me)
  offers slots id me t w heavy some' within word s k home at small =
      let v : View = me.0 in
      let live = live_of model space s.words v (k.views id v at) heavy in
      let told : (u : ℕ) → t + 1 ≡ u + 1 → with_offer v t w ≡ with_offer v u w = λ u e. ap (λ (a : ℕ). with_offer v a w) (omega arith) in
      let F : Bool → Type 0 = λ b. Kept model space record { words = lowered s t w k some' within word; homes = s.homes; views = set s.views id (cond b v (with_bound v t w)) } in (
        with_offer v t w,
        keeps,
        tt,
        dite (ℕ_discrete w EMPTY)
            (λ (e : w ≡ EMPTY). subst F (sym (eq-eqb w EMPTY e)) (empties s t w k some' within word id v at live small e))
            (λ (ne : w ≢ EMPTY). subst F (sym (ne_eqb w EMPTY ne)) (lowers s t w k some' within word id v at live ne)),
        (refl, told),
      )
