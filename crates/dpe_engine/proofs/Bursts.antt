-- A worker on its way.
use Rattle.std.proofs.Common.{◌≡◌, ◌≢◌, ℕ, ◌+◌, ◌-◌, ◌<◌, ◌≤◌, ◌==◌, Bool, true, false, if◌then◌else◌, List, [], ◌∷◌, ◌++◌, All, Contains, length, get_or, drop, sym, refl, ap, ◌∙◌, subst, arith, ◌⊎◌, inl, inr, ⊎_elim, append_assoc, append-nil, length-append}
use mathlib.Core.Logic.{dite}
use native.Mathlib.Decide.{ℕ_discrete}
use Rattle.std.proofs.lemmas.Bool.Decides.{nat_tests}
use Rattle.std.proofs.lemmas.Bool.{true≢false}
use Rattle.std.proofs.lemmas.List.{drop_more, get_or_default}
use Rattle.std.proofs.lemmas.List.Elements.{All-contains, Contains-append_left, Contains-append_right, Contains-append_cases, Contains-push, Contains-push_cases}
use Rattle.dpe_base.specs.declared.pair.Pair.{Pair}
use Rattle.dpe_base.specs.Queries.{JoinQuery}
use Rattle.memo_table.specs.declared.view.View.{View}
use Rattle.memo_table.specs.Seats.{MemoTable, SeatView, IsSeatOf, Settled}
use Rattle.memo_table.specs.Views.{times, with_ticket}
use Rattle.memo_table.proofs.Counting.{times-append}
use Rattle.dpe_engine.specs.Working.{past, IsBounded, IsDone, IsReady, HasDrawn, HasWorked, HasWorkedPair}
use Rattle.dpe_engine.proofs.Tickets.{past-append, times_other, past_one, past_none}
use Rattle.dpe_engine.proofs.PairSteps.{stays_settled}

-- A worker on its way: what it has drawn, the places that it has still to work, and whether a number was past the end.
-- Until then its next number is far enough
pub record IsWorking (model base : ℕ) (group : List Pair) (before now : SeatView) (waiting : List ℕ) (over : Bool) : Type 0 where
  pub tickets : List ℕ
  pub drawn : HasDrawn before now tickets
  pub passed : past (base + length group) tickets ≡ if over then 1 else 0
  pub reached : over ≡ false → (length tickets ≡ 0) ⊎ ((t : ℕ) × Contains now.view.tickets t × (t < base + length group) × (base + length tickets ≤ t + 1))
  pub inside : (k : ℕ) → Contains waiting k → k < length group
  pub done : (k : ℕ) (d : Pair) → k < length group → 0 < times (base + k) tickets
      → IsDone model before.view.query before.view.pairs now.view.bounds (get_or group k d) ⊎ Contains waiting k

pub more_done : (model : ℕ) (q : JoinQuery) (pairs : List Pair) (bs cs : List (ℕ × ℕ)) (p : Pair) → ((b : ℕ × ℕ) → Contains bs b → Contains cs b) → IsDone model q pairs bs p → IsDone model q pairs cs p
more_done model q pairs bs cs p grow d w l = ⊎_elim (λ e. inl e) (λ (h : IsBounded bs _ w). inr (record { word = h.word; bound = grow (_, h.word) h.bound; most = h.most })) (d w l)

pub begins : (model base : ℕ) (group : List Pair) (before : SeatView) → IsWorking model base group before before [] false
begins model base group before =
    record {
      tickets = [];
      drawn = record { table = refl; query = refl; pairs = refl; bounds = λ b h. h; floor = refl; weight = refl; tickets = sym (append-nil before.view.tickets); allowance = omega arith };
      passed = refl;
      reached = λ e. inl refl;
      inside = λ k c. let h : c.0 < 0 = c.1 in absurd (omega arith);
      done = λ k d h t. absurd (omega arith);
    }

draws_more : (before now after : SeatView) (tickets : List ℕ) (n : ℕ) → HasDrawn before now tickets → after.table ≡ now.table → after.view ≡ with_ticket now.view n → 1 ≤ now.view.allowance
    → HasDrawn before after (tickets ++ n ∷ [])
draws_more before now after tickets n g table view may =
    record {
      table = table ∙ g.table;
      query = ap (λ (v : View). v.query) view ∙ g.query;
      pairs = ap (λ (v : View). v.pairs) view ∙ g.pairs;
      bounds = λ b h. let F : View → Type 0 = λ v. Contains v.bounds b in subst F (sym view) (g.bounds b h);
      floor = ap (λ (v : View). v.floor) view ∙ g.floor;
      weight = ap (λ (v : View). v.weight) view ∙ g.weight;
      tickets = ap (λ (v : View). v.tickets) view ∙ (ap (λ (l : List ℕ). l ++ n ∷ []) g.tickets ∙ append_assoc before.view.tickets tickets (n ∷ []));
      allowance = let a = ap (λ (v : View). v.allowance) view in let b = g.allowance in let l = length-append tickets (n ∷ []) in omega arith;
    }

-- what is drawn before and after
pub drawn_through : (before mid after : SeatView) (first second : List ℕ) → HasDrawn before mid first → HasDrawn mid after second → HasDrawn before after (first ++ second)
drawn_through before mid after first second g w =
    record {
      table = w.table ∙ g.table;
      query = w.query ∙ g.query;
      pairs = w.pairs ∙ g.pairs;
      bounds = λ b h. w.bounds b (g.bounds b h);
      floor = w.floor ∙ g.floor;
      weight = w.weight ∙ g.weight;
      tickets = w.tickets ∙ (ap (λ (l : List ℕ). l ++ second) g.tickets ∙ append_assoc before.view.tickets first second);
      allowance = let a = w.allowance in let b = g.allowance in let l = length-append first second in omega arith;
    }

module _ (model : ℕ) (memo : MemoTable) (base : ℕ) (group : List Pair) (before now : SeatView) (waiting : List ℕ) (r : IsReady model memo base group before) (o : IsWorking model base group before now waiting false) where
  pub may_draw : IsSeatOf memo now × (1 ≤ now.view.weight) × (1 ≤ now.view.allowance) × (base ≤ now.view.floor)
  may_draw = let g = o.drawn in (
    record { table = g.table ∙ r.seat.table; query = g.query ∙ r.seat.query; pairs = g.pairs ∙ r.seat.pairs },
    (let a = g.weight in let b = r.weight in omega arith),
    (let a = g.allowance in let b = r.allowance in ⊎_elim (λ (z : length o.tickets ≡ 0). omega arith)
        (λ (t : (t : ℕ) × Contains now.view.tickets t × (t < base + length group) × (base + length o.tickets ≤ t + 1)). let x = t.2 in let y = t.3 in omega arith) (o.reached refl)),
    (let a = g.floor in let b = r.floor in omega arith),
  )

  module _ (mid : SeatView) (n : ℕ) (table : mid.table ≡ now.table) (view : mid.view ≡ with_ticket now.view n) (floor : now.view.floor ≤ n) (above : All (λ x. x < n) now.view.tickets) where
    drawn : HasDrawn before mid (o.tickets ++ n ∷ [])
    drawn = draws_more before now mid o.tickets n o.drawn table view may_draw.2

    pub less : mid.view.allowance + 1 ≡ now.view.allowance
    less = let a = ap (λ (v : View). v.allowance) view in let m = may_draw.2 in omega arith

    same_bounds : (p : Pair) → IsDone model before.view.query before.view.pairs now.view.bounds p → IsDone model before.view.query before.view.pairs mid.view.bounds p
    same_bounds p = more_done model before.view.query before.view.pairs now.view.bounds mid.view.bounds p (λ x y. let F : View → Type 0 = λ v. Contains v.bounds x in subst F (sym view) y)

    -- a ticket of a pair: its place waits
    pub draws_in : n - base < length group → IsWorking model base group before mid (waiting ++ (n - base) ∷ []) false
    draws_in low =
        let inside : n < base + length group = let a = may_draw.3 in omega arith in
        record {
          tickets = o.tickets ++ n ∷ [];
          drawn = drawn;
          passed = let p = past-append (base + length group) o.tickets (n ∷ []) in let q = past_none (base + length group) n inside in let z = o.passed in omega arith;
          reached = λ e. inr (
            n,
            (let F : List ℕ → Type 0 = λ l. Contains l n in subst F (sym (ap (λ (v : View). v.tickets) view)) (Contains-push now.view.tickets n)),
            inside,
            (let l = length-append o.tickets (n ∷ []) in ⊎_elim
                (λ (z : length o.tickets ≡ 0). let a = may_draw.3 in omega arith)
                (λ (t : (t : ℕ) × Contains now.view.tickets t × (t < base + length group) × (base + length o.tickets ≤ t + 1)). let up : t.0 < n = All-contains (λ x. x < n) now.view.tickets t.0 above t.1 in let y = t.3 in omega arith)
                (o.reached refl)),
          );
          inside = λ k c. ⊎_elim (λ was. o.inside k was) (λ (e : n - base ≡ k). omega arith) (Contains-push_cases waiting (n - base) k c);
          done = λ k d h has. dite (ℕ_discrete (base + k) n)
              (λ (e : base + k ≡ n).
              let at : n - base ≡ k = omega arith in
              let F : ℕ → Type 0 = Contains (waiting ++ (n - base) ∷ []) in inr (subst F at (Contains-push waiting (n - base))))
              (λ (ne : base + k ≢ n).
              let a = times-append (base + k) o.tickets (n ∷ []) in let b = times_other (base + k) n ne in
              ⊎_elim (λ was. inl (same_bounds (get_or group k d) was)) (λ w. inr (Contains-append_left waiting ((n - base) ∷ []) k w)) (o.done k d h (omega arith)));
        }

    -- a ticket past the pairs: it is the last
    pub draws_out : length group ≤ n - base → IsWorking model base group before mid waiting true
    draws_out high =
        let outside : base + length group ≤ n = let a = may_draw.3 in omega arith in
        record {
          tickets = o.tickets ++ n ∷ [];
          drawn = drawn;
          passed = let p = past-append (base + length group) o.tickets (n ∷ []) in let q = past_one (base + length group) n outside in let z = o.passed in omega arith;
          reached = λ (e : true ≡ false). absurd (true≢false e);
          inside = o.inside;
          done = λ k d h has.
              let ne : base + k ≢ n = λ e. omega arith in
              let a = times-append (base + k) o.tickets (n ∷ []) in let b = times_other (base + k) n ne in
              ⊎_elim (λ was. inl (same_bounds (get_or group k d) was)) (λ w. inr w) (o.done k d h (omega arith));
        }

-- what the work of one pair asks
pub record MayWork (model : ℕ) (memo : MemoTable) (p : Pair) (now : SeatView) : Type 0 where
  pub seat : IsSeatOf memo now
  pub listed : Contains memo.pairs p
  pub first : Settled model now.view p.a
  pub second : Settled model now.view p.b

module _ (model : ℕ) (memo : MemoTable) (base : ℕ) (group : List Pair) (before now : SeatView) (place : ℕ) (rest : List ℕ) (over : Bool) (r : IsReady model memo base group before) (o : IsWorking model base group before now (place ∷ rest) over) where
  pub place_inside : place < length group
  place_inside = o.inside place (Contains-append_left (place ∷ []) rest place (0, omega arith, refl))

  pub may_work : (p : Pair) → p ≡ get_or group place p → MayWork model memo p now
  may_work p is =
      let g = o.drawn in
      let here : Contains group p = (place, place_inside, sym is) in
      let s = r.workable.sides p here in
      record {
        seat = record { table = g.table ∙ r.seat.table; query = g.query ∙ r.seat.query; pairs = g.pairs ∙ r.seat.pairs };
        listed = rw (← r.seat.pairs) (r.workable.listed p here);
        first = stays_settled model before.view now.view p.a g.query g.pairs g.bounds s.0;
        second = stays_settled model before.view now.view p.b g.query g.pairs g.bounds s.1;
      }

  pub works_on : (after : SeatView) (p : Pair) → p ≡ get_or group place p → HasWorkedPair model p now after → IsWorking model base group before after rest over
  works_on after p is w =
      let same_tickets : after.view.tickets ≡ now.view.tickets = w.drawn.tickets ∙ append-nil now.view.tickets in
      record {
        tickets = o.tickets;
        drawn = let F : List ℕ → Type 0 = HasDrawn before after in subst F (append-nil o.tickets) (drawn_through before now after o.tickets [] o.drawn w.drawn);
        passed = o.passed;
        reached = λ e. let F : List ℕ → Type 0 = λ l. (length o.tickets ≡ 0) ⊎ ((t : ℕ) × Contains l t × (t < base + length group) × (base + length o.tickets ≤ t + 1)) in subst F (sym same_tickets) (o.reached e);
        inside = λ k c. o.inside k (Contains-append_right (place ∷ []) rest k c);
        done = λ k d h has. dite (ℕ_discrete k place)
            (λ (e : k ≡ place).
            let same : p ≡ get_or group k d = is ∙ (ap (λ (i : ℕ). get_or group i p) (sym e) ∙ get_or_default group k p d h) in
            let F : Pair → Type 0 = IsDone model before.view.query before.view.pairs after.view.bounds in
            inl (subst F same (rw (← o.drawn.query, ← o.drawn.pairs) w.done)))
            (λ (ne : k ≢ place). ⊎_elim
            (λ was. inl (more_done model before.view.query before.view.pairs now.view.bounds after.view.bounds (get_or group k d) w.drawn.bounds was))
            (λ (c : Contains (place ∷ rest) k). ⊎_elim (λ (one : Contains (place ∷ []) k). absurd (ne (only place k one))) (λ other. inr other) (Contains-append_cases (place ∷ []) rest k c))
            (o.done k d h has));
      }
    where
      only : (x y : ℕ) → Contains (x ∷ []) y → y ≡ x
      only x y c = ⊎_elim (λ (n : Contains [] y). let h : n.0 < 0 = n.1 in absurd (omega arith)) (λ e. sym e) (Contains-push_cases [] x y c)

-- nothing waits, and a ticket was past the pairs
pub ends : (model base : ℕ) (group : List Pair) (before now : SeatView) → IsWorking model base group before now [] true → HasWorked model base group before now
ends model base group before now o =
    record {
      tickets = o.tickets;
      drawn = o.drawn;
      one_past = o.passed;
      done = λ k d h has. ⊎_elim (λ e. e) (λ (w : Contains [] k). let i : w.0 < 0 = w.1 in absurd (omega arith)) (o.done k d h has);
    }

-- ---- the places from the i-th on

pub works_at : (model base : ℕ) (group : List Pair) (before now : SeatView) (places seen : List ℕ) (i : ℕ) (over : Bool) → IsWorking model base group before now (drop i places) over → seen ≡ places → i < length places
    → IsWorking model base group before now (get_or seen i 0 ∷ drop (i + 1) places) over
works_at model base group before now places seen i over o is h =
    let F : List ℕ → Type 0 = λ l. IsWorking model base group before now l over in
    let G : List ℕ → Type 0 = λ l. IsWorking model base group before now (get_or l i 0 ∷ drop (i + 1) places) over in
    subst G (sym is) (subst F (drop_more places i 0 h) o)

pub full_some : (n : ℕ) → (n == 16) ≡ true → 1 ≤ n
full_some n h = grind (arith, nat_tests)
