-- The steps on the counter keep the rule: a fetch_add of 1, and a load.
use Rattle.std.proofs.Common.{◌≡◌, ℕ, ◌+◌, ◌%◌, ◌^◌, ◌<◌, ◌≤◌, List, length, set, get_or, sym, refl, subst, arith, ◌∙◌, inl, length-set, get_or-set_same, le_refl}
use mathlib.Core.Option.{none}
use Rattle.atomic_table.specs.Table.{step, keeps, Allows}
use Rattle.memo_table.specs.declared.view.View.{View}
use Rattle.memo_table.specs.declared.view.TreeSpace.{TreeSpace}
use Rattle.memo_table.specs.Views.{with_ticket, with_floor}
use Rattle.join_tree.specs.Trees.{IsEmptyOrMade}
use Rattle.memo_table.specs.Rule.{counter, Counts, IsLive, AreMemoWords, Kept}
use Rattle.memo_table.specs.Steps.{SeatState, draw_tells, drawn_tells}
use Rattle.memo_table.proofs.Counting.{staying, drawing, draw_fits, tickets_below, knowing}
use Rattle.memo_table.proofs.Holding.{live_of, moved, turned, others_spent}
use Rattle.memo_table.proofs.MemoWords.{word_beside}

module _ (model : ℕ) (space : TreeSpace) where
  memo_beside : (ws : List ℕ) (n : ℕ) → AreMemoWords model space ws → AreMemoWords model space (set ws 0 n)
  memo_beside ws n m = record {
    width = length-set ws 0 n ∙ m.width;
    none = word_beside ws n 0 ∙ m.none;
    made = λ u. let G : ℕ → Type 0 = IsEmptyOrMade model space.query space.pairs u in subst G (sym (word_beside ws n u)) (m.made u);
  }

  pub draws : (slots id : ℕ) (me : SeatState) → 1 ≤ me.0.weight → 1 ≤ me.0.allowance → Allows (Kept model space) slots id me 0 (λ n. (n + 1) % 2 ^ 64) (draw_tells (step slots 0 1 0 none) me)
  draws slots id me heavy may s k home at small =
      let v : View = me.0 in
      let live = live_of model space s.words v (k.views id v at) heavy in
      let n : ℕ = get_or s.words 0 0 in
      let m : ℕ = (n + 1) % 2 ^ 64 in
      let room = draw_fits n s.views id v k.counts at may in
      let next : m ≡ n + 1 = omega arith in
      let wide : 0 < length s.words = let w = k.words.width in omega arith in
      let is : counter (set s.words 0 m) ≡ n + 1 = get_or-set_same s.words 0 m 0 wide ∙ next in
      let w : View = with_ticket v n in
      let live' : IsLive model space (set s.words 0 m) w = record {
        weight = live.weight;
        query = live.query;
        pairs = live.pairs;
        floor = let f = live.floor in omega arith;
        bounds = λ b has. let g = live.bounds b has in record { is = g.is; reached = let d = word_beside s.words m b.0 in let r = g.reached in omega arith };
      } in (
        w,
        keeps,
        tt,
        moved model space s 0 m id v w k at (omega arith) (λ t. let d = word_beside s.words m t in omega arith) (memo_beside s.words m k.words) (λ t. inl (word_beside s.words m t)) (λ b h. h) live'
            (let F : ℕ → Type 0 = λ a. Counts a (set s.views id w) in subst F (sym is) (drawing n s.views id v k.counts at may)),
        (refl, record { view = refl; floor = live.floor; above = tickets_below n s.views id v k.counts at }),
      )

  pub sees_drawn : (slots id : ℕ) (me : SeatState) → 1 ≤ me.0.weight → Allows (Kept model space) slots id me 0 (λ n. n) (drawn_tells (step slots 0 0 0 none) me)
  sees_drawn slots id me heavy s k home at small =
      let v : View = me.0 in
      let live = live_of model space s.words v (k.views id v at) heavy in
      let n : ℕ = get_or s.words 0 0 in
      let w : View = with_floor v n in (
        w,
        keeps,
        tt,
        turned model space s id v w k at (λ b h. h) record { weight = live.weight; query = live.query; pairs = live.pairs; floor = le_refl n; bounds = live.bounds }
            (staying n s.views id v w k.counts at refl refl refl) 0,
        (refl, record { view = refl; floor = live.floor; above = tickets_below n s.views id v k.counts at; all = λ all. knowing n s.views id v k.counts at (others_spent model space s id v k at all) }),
      )
