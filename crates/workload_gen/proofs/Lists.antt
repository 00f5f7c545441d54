-- A list that is drawn one after another.
use Rattle.std.proofs.Common.{◌≡◌, ◌∙◌, ℕ, suc, ◌+◌, ◌-◌, ◌<◌, ◌≤◌, List, [], ◌∷◌, ◌++◌, Option, Some, None, refl, sym, ap, arith, append_assoc, append-nil}
use Rattle.workload_gen.specs.Draws.{State, Drawing, draw_each, those_drawn}

-- what is still drawn, behind what was
abbrev pub behind : {A : Type 0} → List A → List A × State → List A × State
behind front rest = (front ++ rest.0, rest.1)

-- the same, where a drawing may give nothing
abbrev pub behind_present : {A : Type 0} → List A → List (Option A) × State → List A × State
behind_present front rest = (front ++ those_drawn rest.0, rest.1)

nothing_more : {A : Type 0} (draw : ℕ → Drawing A) (i : ℕ) (s : State) → draw_each draw i 0 s ≡ ([], s)
unfolding draw_each
nothing_more draw i s = refl

-- what is left after the drawing of i, with what that gave
abbrev with_first : {A : Type 0} → (ℕ → Drawing A) → ℕ → ℕ → A × State → List A × State
with_first draw i m p = (p.0 ∷ (draw_each draw (i + 1) m p.1).0, (draw_each draw (i + 1) m p.1).1)

one_more : {A : Type 0} (draw : ℕ → Drawing A) (i m : ℕ) (s : State) → draw_each draw i (suc m) s ≡ with_first draw i m (draw i s)
unfolding draw_each
one_more draw i m s = refl

next_of : {A : Type 0} (draw : ℕ → Drawing A) (i n : ℕ) (s t : State) (x : A) → i < n → (x, t) ≡ draw i s
    → with_first draw i (n - (i + 1)) (x, t) ≡ draw_each draw i (n - i) s
next_of draw i n s t x below e =
    let more : suc (n - (i + 1)) ≡ n - i = omega arith in
    ap (with_first draw i (n - (i + 1))) e ∙ sym (one_more draw i (n - (i + 1)) s) ∙ ap (λ k. draw_each draw i k s) more

none_left : {A : Type 0} (draw : ℕ → Drawing A) (i n : ℕ) (s : State) → n ≤ i → draw_each draw i (n - i) s ≡ ([], s)
none_left draw i n s over =
    let none : n - i ≡ 0 = omega arith in
    ap (λ k. draw_each draw i k s) none ∙ nothing_more draw i s

behind_next : {A : Type 0} (front : List A) (x : A) (rest : List A × State) → behind (front ++ x ∷ []) rest ≡ behind front (x ∷ rest.0, rest.1)
behind_next front x rest = ap (λ xs. (xs, rest.1)) (append_assoc front (x ∷ []) rest.0)

-- one drawing more, at the end of the list
pub kept : {A : Type 0} (draw : ℕ → Drawing A) (i n : ℕ) (s t : State) (front now : List A) (x : A) (all : List A × State)
    → now ≡ front ++ x ∷ [] → (x, t) ≡ draw i s → i < n → behind front (draw_each draw i (n - i) s) ≡ all → behind now (draw_each draw (i + 1) (n - (i + 1)) t) ≡ all
kept draw i n s t front now x all grown drawn below before =
    ap (λ xs. behind xs (draw_each draw (i + 1) (n - (i + 1)) t)) grown
    ∙ behind_next front x (draw_each draw (i + 1) (n - (i + 1)) t)
    ∙ ap (behind front) (next_of draw i n s t x below drawn)
    ∙ before

pub ended : {A : Type 0} (draw : ℕ → Drawing A) (i n : ℕ) (s : State) (front : List A) (all : List A × State)
    → n ≤ i → behind front (draw_each draw i (n - i) s) ≡ all → (front, s) ≡ all
ended draw i n s front all over before =
    let whole : (front ++ [], s) ≡ (front, s) = ap (λ xs. (xs, s)) (append-nil front) in
    sym whole ∙ sym (ap (behind front) (none_left draw i n s over)) ∙ before

present_first : {A : Type 0} (o : Option A) (os : List (Option A)) → those_drawn (o ∷ []) ++ those_drawn os ≡ those_drawn (o ∷ os)
present_first (Some x) os = refl
present_first None os = refl

pub some_present : {A : Type 0} (front : List A) (o : Option A) (x : A) → o ≡ Some x → front ++ x ∷ [] ≡ front ++ those_drawn (o ∷ [])
some_present front o x e = rw e refl

pub none_present : {A : Type 0} (front : List A) (o : Option A) → o ≡ None → front ≡ front ++ those_drawn (o ∷ [])
none_present front o e = rw e (sym (append-nil front))

-- the same two, where a drawing may give nothing
pub kept_present : {A : Type 0} (draw : ℕ → Drawing (Option A)) (i n : ℕ) (s t : State) (front now : List A) (o : Option A) (all : List A × State)
    → now ≡ front ++ those_drawn (o ∷ []) → (o, t) ≡ draw i s → i < n → behind_present front (draw_each draw i (n - i) s) ≡ all
    → behind_present now (draw_each draw (i + 1) (n - (i + 1)) t) ≡ all
kept_present draw i n s t front now o all grown drawn below before =
    let rest = draw_each draw (i + 1) (n - (i + 1)) t in
    let met : those_drawn (o ∷ []) ++ those_drawn rest.0 ≡ those_drawn (o ∷ rest.0) = present_first o rest.0 in
    let e : now ++ those_drawn rest.0 ≡ front ++ those_drawn (o ∷ rest.0) =
    ap (λ xs. xs ++ those_drawn rest.0) grown ∙ append_assoc front (those_drawn (o ∷ [])) (those_drawn rest.0) ∙ ap (λ xs. front ++ xs) met in
    ap (λ xs. (xs, rest.1)) e ∙ ap (behind_present front) (next_of draw i n s t o below drawn) ∙ before

pub ended_present : {A : Type 0} (draw : ℕ → Drawing (Option A)) (i n : ℕ) (s : State) (front : List A) (all : List A × State)
    → n ≤ i → behind_present front (draw_each draw i (n - i) s) ≡ all → (front, s) ≡ all
ended_present draw i n s front all over before =
    let whole : (front ++ [], s) ≡ (front, s) = ap (λ xs. (xs, s)) (append-nil front) in
    sym whole ∙ sym (ap (behind_present front) (none_left draw i n s over)) ∙ before
