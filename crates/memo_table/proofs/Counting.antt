-- Sums over the views, and what each step does to the counter and the sums.
use Rattle.std.proofs.Common.{◌≡◌, ℕ, zero, suc, ◌+◌, ◌<◌, ◌≤◌, ◌≢◌, ◌==◌, Bool, cond, List, [], ◌∷◌, ◌++◌, All, length, set, get_or, sum_by, sym, refl, ap, ◌∙◌, subst, arith, eq-eqb, length-append}
use mathlib.Core.Option.{some, some-injective, some-ne-none}
use lib.ListN.{get_elem?}
use Rattle.std.proofs.lemmas.Bool.Decides.{nat_tests}
use Rattle.std.proofs.lemmas.List.Sums.{sum_by-cons, sum_by-append, sum_by-set, sum_by_push, get_or-le-sum_by}
use Rattle.dpe_base.specs.declared.TheConstants.{WEIGHT, DRAWS}
use Rattle.memo_table.specs.declared.view.View.{View}
use Rattle.memo_table.specs.Views.{times, once_below, EachOnceBelow, spent_view, with_ticket, kept_part, given_part, joined_view}
use Rattle.memo_table.specs.Rule.{Counts}

-- ---- places and sums

pub at_inside : {A : Type 0} (l : List A) (i : ℕ) (a : A) → get_elem? l i ≡ some a → i < length l
at_inside [] i a e = absurd (some-ne-none a (sym e))
at_inside (x ∷ xs) zero a e = omega arith
at_inside (x ∷ xs) (suc i) a e = let r = at_inside xs i a e in omega arith

at_is : {A : Type 0} (l : List A) (i : ℕ) (a d : A) → get_elem? l i ≡ some a → get_or l i d ≡ a
at_is [] i a d e = absurd (some-ne-none a (sym e))
at_is (x ∷ xs) zero a d e = some-injective x a e
at_is (x ∷ xs) (suc i) a d e = at_is xs i a d e

-- the sum after a change of one view
sum_set : (f : View → ℕ) (views : List View) (id : ℕ) (v w : View) → get_elem? views id ≡ some v → sum_by f (set views id w) + f v ≡ sum_by f views + f w
sum_set f views id v w at =
    let s = sum_by-set f views id w v (at_inside views id v at) in let is : f (get_or views id v) ≡ f v = ap f (at_is views id v v at) in omega arith

sum_part : (f : View → ℕ) (views : List View) (id : ℕ) (v : View) → get_elem? views id ≡ some v → f v ≤ sum_by f views
sum_part f views id v at =
    let s = get_or-le-sum_by f views id v (at_inside views id v at) in let is : f (get_or views id v) ≡ f v = ap f (at_is views id v v at) in omega arith

-- two views are parts of one sum
sum_parts : (f : View → ℕ) (views : List View) (id other : ℕ) (v w : View) → get_elem? views id ≡ some v → other ≢ id → get_elem? views other ≡ some w → f v + f w ≤ sum_by f views
sum_parts f [] id other v w at ne at' = absurd (some-ne-none v (sym at))
sum_parts f (x ∷ xs) zero zero v w at ne at' = absurd (ne refl)
sum_parts f (x ∷ xs) zero (suc other) v w at ne at' = let is : f x ≡ f v = ap f (some-injective x v at) in let r = sum_part f xs other w at' in let c = sum_by-cons f x xs in omega arith
sum_parts f (x ∷ xs) (suc id) zero v w at ne at' = let is : f x ≡ f w = ap f (some-injective x w at') in let r = sum_part f xs id v at in let c = sum_by-cons f x xs in omega arith
sum_parts f (x ∷ xs) (suc id) (suc other) v w at ne at' = let r = sum_parts f xs id other v w at (λ e. ne (ap suc e)) at' in let c = sum_by-cons f x xs in omega arith

-- where the others have nothing, the sum is one view's
sum_alone : (f : View → ℕ) (views : List View) (id : ℕ) (v : View) → get_elem? views id ≡ some v
    → ((other : ℕ) (w : View) → other ≢ id → get_elem? views other ≡ some w → f w ≡ 0) → sum_by f views ≡ f v
sum_alone f [] id v at rest = absurd (some-ne-none v (sym at))
sum_alone f (x ∷ xs) zero v at rest =
    let is : f x ≡ f v = ap f (some-injective x v at) in
    let r : sum_by f xs ≡ 0 = sum_none f xs (λ other w at'. rest (suc other) w (λ e. omega arith) at') in
    let c = sum_by-cons f x xs in omega arith
  where
    sum_none : (f : View → ℕ) (views : List View) → ((other : ℕ) (w : View) → get_elem? views other ≡ some w → f w ≡ 0) → sum_by f views ≡ 0
    sum_none f [] none = refl
    sum_none f (y ∷ ys) none = let here = none 0 y refl in let r = sum_none f ys (λ other w at. none (suc other) w at) in let c = sum_by-cons f y ys in omega arith
sum_alone f (x ∷ xs) (suc id) v at rest =
    let here : f x ≡ 0 = rest 0 x (λ e. omega arith) refl in
    let r = sum_alone f xs id v at (λ other w ne at'. rest (suc other) w (λ e. ne (omega arith)) at') in
    let c = sum_by-cons f x xs in omega arith

-- ---- how often a number stands in a list

pub times-append : (x : ℕ) (xs ys : List ℕ) → times x (xs ++ ys) ≡ times x xs + times x ys
times-append x xs ys = sum_by-append (λ y. cond (y == x) 1 0) xs ys

-- a number of the list stands in it
pub times_some : (xs : List ℕ) (k d : ℕ) → k < length xs → 1 ≤ times (get_or xs k d) xs
times_some xs k d inside =
    let x : ℕ = get_or xs k d in
    let s = get_or-le-sum_by (λ y. cond (y == x) 1 0) xs k d inside in
    let F : Bool → Type 0 = λ b. cond b 1 0 + 0 ≡ 1 in
    let here : cond (x == x) 1 0 + 0 ≡ 1 = subst F (sym (eq-eqb x x refl)) refl in omega arith

-- one number more
once_next : (x n : ℕ) → once_below x (n + 1) ≡ once_below x n + times x (n ∷ [])
once_next x n = grind (arith, nat_tests)

once_some : (x n : ℕ) → 1 ≤ once_below x n → x < n
once_some x n h = grind (arith, nat_tests)

-- ---- the steps

-- a view with the same tickets, weight and allowance
pub staying : (n : ℕ) (views : List View) (id : ℕ) (v w : View) → Counts n views → get_elem? views id ≡ some v
    → w.tickets ≡ v.tickets → w.weight ≡ v.weight → w.allowance ≡ v.allowance → Counts n (set views id w)
staying n views id v w c at t e a = record {
  once = λ x. let s = sum_set (λ u. times x u.tickets) views id v w at in let h = c.once x in let k = ap (times x) t in omega arith;
  count = let s = sum_set (λ u. length u.tickets) views id v w at in let h = c.count in let k = ap (λ (l : List ℕ). length l) t in omega arith;
  weights = let s = sum_set (λ u. u.weight) views id v w at in let h = c.weights in omega arith;
  draws = let s = sum_set (λ u. u.allowance) views id v w at in let h = c.draws in omega arith;
}

pub drawing : (n : ℕ) (views : List View) (id : ℕ) (v : View) → Counts n views → get_elem? views id ≡ some v → 1 ≤ v.allowance → Counts (n + 1) (set views id (with_ticket v n))
drawing n views id v c at may = record {
  once = λ x.
      let s = sum_set (λ u. times x u.tickets) views id v (with_ticket v n) at in
      let a = times-append x v.tickets (n ∷ []) in
      let o = once_next x n in
      let h = c.once x in omega arith;
  count =
      let s = sum_set (λ u. length u.tickets) views id v (with_ticket v n) at in
      let a = length-append v.tickets (n ∷ []) in
      let h = c.count in omega arith;
  weights = let s = sum_set (λ u. u.weight) views id v (with_ticket v n) at in let h = c.weights in omega arith;
  draws = let s = sum_set (λ u. u.allowance) views id v (with_ticket v n) at in let h = c.draws in omega arith;
}

-- the counter stays far below its type's end while a draw is left
pub draw_fits : (n : ℕ) (views : List View) (id : ℕ) (v : View) → Counts n views → get_elem? views id ≡ some v → 1 ≤ v.allowance → n < DRAWS
draw_fits n views id v c at may = let p = sum_part (λ u. u.allowance) views id v at in let d = c.draws in omega arith

-- each ticket of a view is below the counter
pub tickets_below : (n : ℕ) (views : List View) (id : ℕ) (v : View) → Counts n views → get_elem? views id ≡ some v → All (λ x. x < n) v.tickets
tickets_below n views id v c at k d inside =
    let x : ℕ = get_or v.tickets k d in
    let t = times_some v.tickets k d inside in
    let p = sum_part (λ u. times x u.tickets) views id v at in
    let o = c.once x in
    once_some x n (omega arith)

pub splitting : (n d : ℕ) (views : List View) (id : ℕ) (v : View) → Counts n views → get_elem? views id ≡ some v → 2 ≤ v.weight → d ≤ v.allowance
    → Counts n (set views id (kept_part d v) ++ given_part d v ∷ [])
splitting n d views id v c at heavy may =
    let w : View = kept_part d v in let u : View = given_part d v in record {
      once = λ x. let s = sum_set (λ a. times x a.tickets) views id v w at in let p = sum_by_push (λ a. times x a.tickets) (set views id w) u in let h = c.once x in omega arith;
      count = let s = sum_set (λ a. length a.tickets) views id v w at in let p = sum_by_push (λ a. length a.tickets) (set views id w) u in let h = c.count in omega arith;
      weights = let s = sum_set (λ a. a.weight) views id v w at in let p = sum_by_push (λ a. a.weight) (set views id w) u in let h = c.weights in omega arith;
      draws = let s = sum_set (λ a. a.allowance) views id v w at in let p = sum_by_push (λ a. a.allowance) (set views id w) u in let h = c.draws in omega arith;
    }

pub joining : (n : ℕ) (views : List View) (id : ℕ) (v : View) (other : ℕ) (w : View) → Counts n views → get_elem? views id ≡ some v
    → get_elem? (set views id (joined_view v w)) other ≡ some w → Counts n (set (set views id (joined_view v w)) other spent_view)
joining n views id v other w c at at' =
    let u : View = joined_view v w in record {
      once = λ x.
          let s = sum_set (λ a. times x a.tickets) views id v u at in
          let p = sum_set (λ a. times x a.tickets) (set views id u) other w spent_view at' in
          let t = times-append x v.tickets w.tickets in let h = c.once x in omega arith;
      count =
          let s = sum_set (λ a. length a.tickets) views id v u at in
          let p = sum_set (λ a. length a.tickets) (set views id u) other w spent_view at' in
          let t = length-append v.tickets w.tickets in let h = c.count in omega arith;
      weights = let s = sum_set (λ a. a.weight) views id v u at in let p = sum_set (λ a. a.weight) (set views id u) other w spent_view at' in let h = c.weights in omega arith;
      draws = let s = sum_set (λ a. a.allowance) views id v u at in let p = sum_set (λ a. a.allowance) (set views id u) other w spent_view at' in let h = c.draws in omega arith;
    }

-- who has the whole weight has all numbers, where each other view is spent
pub knowing : (n : ℕ) (views : List View) (id : ℕ) (v : View) → Counts n views → get_elem? views id ≡ some v
    → ((other : ℕ) (w : View) → other ≢ id → get_elem? views other ≡ some w → w ≡ spent_view) → EachOnceBelow n v.tickets
knowing n views id v c at others = record {
  count = sym (sum_alone (λ u. length u.tickets) views id v at (λ other w ne at'. ap (λ (u : View). length u.tickets) (others other w ne at'))) ∙ c.count;
  once = λ x. sym (sum_alone (λ u. times x u.tickets) views id v at (λ other w ne at'. ap (λ (u : View). times x u.tickets) (others other w ne at'))) ∙ c.once x;
}

-- and leaves none to the others
pub weight_left : (n : ℕ) (views : List View) (id other : ℕ) (v w : View) → Counts n views → get_elem? views id ≡ some v → v.weight ≡ WEIGHT → other ≢ id → get_elem? views other ≡ some w → w.weight ≡ 0
weight_left n views id other v w c at all ne at' = let p = sum_parts (λ u. u.weight) views id other v w at ne at' in let h = c.weights in omega arith
