-- A whole round.
use Rattle.std.proofs.Common.{◌≡◌, ℕ, ◌+◌, ◌*◌, ◌<◌, ◌≤◌, List, ◌++◌, Contains, length, get_or, refl, sym, ap, ◌∙◌, subst, arith, sum_by}
use Rattle.std.proofs.lemmas.List.Elements.{All-get_or, Contains-get_or}
use Rattle.dpe_base.specs.declared.pair.Pair.{Pair}
use Rattle.dpe_base.specs.Queries.{JoinQuery}
use Rattle.dpe_base.specs.declared.TheConstants.{WEIGHT}
use Rattle.memo_table.specs.declared.view.View.{View}
use Rattle.memo_table.specs.Seats.{MemoTable, SeatView, BoundsAreMade}
use Rattle.memo_table.specs.Views.{times, EachOnceBelow, with_floor}
use Rattle.dpe_engine.specs.Working.{past, IsDone}
use Rattle.dpe_engine.specs.Rounds.{MayWorkRound, HasOpenedRound, HasWorkedRound}
use Rattle.dpe_engine.specs.Rounds.Crews.{IsWorkerSeat, IsSplit, IsGathered, HaveWorked}
use Rattle.dpe_engine.proofs.Tickets.{past_is, once_in, once_out, sum_fixed, sum_both, some_positive}
use Rattle.dpe_engine.proofs.Bursts.{more_done}

same_done : (model : ℕ) (q q' : JoinQuery) (l l' : List Pair) (bs : List (ℕ × ℕ)) (p : Pair) → q ≡ q' → l ≡ l' → IsDone model q l bs p → IsDone model q' l' bs p
same_done model q q' l l' bs p e f d =
    let F : JoinQuery → Type 0 = λ x. IsDone model x l' bs p in let G : List Pair → Type 0 = λ x. IsDone model q x bs p in subst F e (subst G f d)

-- a look at the counter leaves all that a round asks
pub may_still : (model : ℕ) (memo : MemoTable) (workers : ℕ) (group : List Pair) (s t : SeatView) → MayWorkRound model memo workers group s → t.table ≡ s.table → {n : ℕ} → t.view ≡ with_floor s.view n → MayWorkRound model memo workers group t
may_still model memo workers group s t m table {n} view =
    let F : View → Type 0 = λ v. MayWorkRound model memo workers group record { table = s.table; view = v } in
    let G : _ → Type 0 = λ x. MayWorkRound model memo workers group record { table = x; view = t.view } in
    let looked_at : MayWorkRound model memo workers group record { table = s.table; view = with_floor s.view n } =
    record {
      some = m.some;
      few = m.few;
      seat = record { table = m.seat.table; query = m.seat.query; pairs = m.seat.pairs };
      weight = m.weight;
      allowance = m.allowance;
      workable = record {
        listed = m.workable.listed;
        sides = λ p c. let z = m.workable.sides p c in (record { word = z.0.word; bound = z.0.bound; least = z.0.least }, record { word = z.1.word; bound = z.1.bound; least = z.1.least });
      };
    } in
    subst G (sym table) (subst F (sym view) looked_at)

module _ (model : ℕ) (memo : MemoTable) (base workers : ℕ) (group : List Pair) (first split : SeatView) (crew crew' : List SeatView)
    (s : IsSplit memo first split crew workers (length group + 1)) (w : HaveWorked model base group crew crew') where
  size : length crew' ≡ workers
  size = w.size ∙ s.size

  part : (k : ℕ) (d : SeatView) → k < length crew' → (k < length crew) × IsWorkerSeat memo first (length group + 1) (get_or crew k d)
  part k d h =
      let z = size in let q = s.size in let inside : k < length crew = omega arith in
      (inside, All-get_or (IsWorkerSeat memo first (length group + 1)) crew k d inside s.each)

  sum_weight : sum_by (λ (c : SeatView). c.view.weight) crew' ≡ workers
  sum_weight =
      let e = sum_fixed (λ (c : SeatView). c.view.weight) 1 crew' (λ k d h. let p = part k d h in let a = (w.each k d p.0).drawn.weight in let b = p.1.weight in omega arith) in
      let z = size in omega arith

  sum_past : sum_by (λ (c : SeatView). past (base + length group) c.view.tickets) crew' ≡ workers
  sum_past =
      let e = sum_fixed (λ (c : SeatView). past (base + length group) c.view.tickets) 1 crew'
      (λ k d h. let p = part k d h in let r = w.each k d p.0 in
      ap (past (base + length group)) (r.drawn.tickets ∙ ap (λ (l : List ℕ). l ++ r.tickets) p.1.tickets) ∙ r.one_past) in
      let z = size in omega arith

  sum_draws : sum_by (λ (c : SeatView). c.view.allowance) crew' + sum_by (λ (c : SeatView). length c.view.tickets) crew' ≡ workers * (length group + 1)
  sum_draws =
      let e = sum_fixed (λ (c : SeatView). c.view.allowance + length c.view.tickets) (length group + 1) crew'
      (λ k d h. let p = part k d h in let r = w.each k d p.0 in let a = p.1.allowance in let b = r.drawn.allowance in
      let l : length (get_or crew' k d).view.tickets ≡ length r.tickets = ap (λ (l : List ℕ). length l) (r.drawn.tickets ∙ ap (λ (l : List ℕ). l ++ r.tickets) p.1.tickets) in omega arith) in
      sym (sum_both (λ (c : SeatView). c.view.allowance) (λ (c : SeatView). length c.view.tickets) crew') ∙ (e ∙ ap (λ (n : ℕ). n * (length group + 1)) size)

  module _ (gathered : SeatView) (some : 1 ≤ workers) (known : EachOnceBelow base first.view.tickets) (g : IsGathered memo split crew' gathered) where
    -- the weight is whole again
    whole : gathered.view.weight ≡ first.view.weight
    whole = let a = g.weight in let b = s.weight in let c = sum_weight in omega arith

    -- where the counter has ended
    ended : (n : ℕ) → EachOnceBelow n gathered.view.tickets → n ≡ base + length group + workers
    ended n b =
        let p = past_is n gathered.view.tickets b (base + length group) in
        let q = g.passed (base + length group) in
        let r = sum_past in
        let t : past (base + length group) split.view.tickets ≡ past (base + length group) first.view.tickets = ap (past (base + length group)) s.tickets in
        let o = past_is base first.view.tickets known (base + length group) in omega arith

    -- each place below the end was drawn by one worker, whose bounds the main seat took in
    place_done : (n : ℕ) → EachOnceBelow n gathered.view.tickets → (k : ℕ) (d : Pair) → k < length group → IsDone model memo.query memo.pairs gathered.view.bounds (get_or group k d)
    place_done n b k d h =
        let e = ended n b in
        let x : ℕ = base + k in
        let f : SeatView → ℕ = λ c. times x c.view.tickets in
        let mine = b.once x in
        let one = once_in x n (omega arith) in
        let old : times x split.view.tickets ≡ times x first.view.tickets = ap (times x) s.tickets in
        let none = known.once x in
        let out = once_out x base (omega arith) in
        let all = g.drawn x in
        let found = some_positive f crew' split (omega arith) in
        let j : ℕ = found.0 in
        let p = part j split found.1 in
        let r = w.each j split p.0 in
        let drawn : 0 < times x r.tickets = let F : List ℕ → Type 0 = λ l. 0 < times x l in subst F (r.drawn.tickets ∙ ap (λ (l : List ℕ). l ++ r.tickets) p.1.tickets) found.2 in
        let done = r.done k d h drawn in
        more_done model memo.query memo.pairs (get_or crew' j split).view.bounds gathered.view.bounds (get_or group k d)
        (λ u has. g.taken u (record { seat = get_or crew' j split; member = Contains-get_or crew' j split found.1; bound = has }))
        (same_done model (get_or crew j split).view.query memo.query (get_or crew j split).view.pairs memo.pairs (get_or crew' j split).view.bounds (get_or group k d) p.1.seat.query p.1.seat.pairs done)

    round_done : (last : SeatView) (n : ℕ) → first.view.weight ≡ WEIGHT → (gathered.view.weight ≡ WEIGHT → EachOnceBelow n gathered.view.tickets) → last.table ≡ gathered.table → last.view ≡ with_floor gathered.view n
        → (before : SeatView) → EachOnceBelow base before.view.tickets → before.view.floor ≤ base → BoundsAreMade model last.view → first.view.allowance ≡ before.view.allowance → ((b : ℕ × ℕ) → Contains before.view.bounds b → Contains first.view.bounds b) → HasWorkedRound model memo base workers group before last
    round_done last n heavy tells table view before began reached made same grow =
        let b = tells (whole ∙ heavy) in
        let e = ended n b in
        record {
          seat = record { table = table ∙ g.seat.table; query = ap (λ (v : View). v.query) view ∙ g.seat.query; pairs = ap (λ (v : View). v.pairs) view ∙ g.seat.pairs };
          weight = ap (λ (v : View). v.weight) view ∙ (whole ∙ heavy);
          began = began;
          reached = reached;
          floor = ap (λ (v : View). v.floor) view ∙ e;
          made = made;
          tickets = let F : View → Type 0 = λ v. EachOnceBelow (base + length group + workers) v.tickets in subst F (sym view) (let G : ℕ → Type 0 = λ m. EachOnceBelow m gathered.view.tickets in subst G e b);
          allowance =
              let a = ap (λ (v : View). v.allowance) view in
              let c = g.allowance in let d = g.counted in let h = sum_draws in let i = s.allowance in let j = b.count in let k = known.count in
              let l : length split.view.tickets ≡ length first.view.tickets = ap (λ (l : List ℕ). length l) s.tickets in omega arith;
          done = λ p c.
              let F : View → Type 0 = λ v. IsDone model memo.query memo.pairs v.bounds p in
              let G : Pair → Type 0 = IsDone model memo.query memo.pairs gathered.view.bounds in
              subst F (sym view) (subst G c.2 (place_done n b c.0 p c.1));
          bounds = λ x h.
              let F : View → Type 0 = λ v. Contains v.bounds x in
              let G : List (ℕ × ℕ) → Type 0 = λ l. Contains l x in
              subst F (sym view) (g.bounds x (subst G (sym s.bounds) (grow x h)));
        }

-- what was opened, worked and gathered is a round
pub closes : (model : ℕ) (memo : MemoTable) (base workers : ℕ) (group : List Pair) (before split gathered last : SeatView) (opened crew' : List SeatView) (n : ℕ) → HasOpenedRound model memo base workers group before split opened → HaveWorked model base group opened crew'
    → IsGathered memo split crew' gathered → (gathered.view.weight ≡ WEIGHT → EachOnceBelow n gathered.view.tickets) → last.table ≡ gathered.table → last.view ≡ with_floor gathered.view n → BoundsAreMade model last.view → HasWorkedRound model memo base workers group before last
closes model memo base workers group before split gathered last opened crew' n o w g tells table view made =
    let known : EachOnceBelow base o.first.view.tickets = rw o.looked o.known in
    round_done model memo base workers group o.first split opened crew' o.split w gathered o.some known g last n (rw o.looked o.weight) tells table view before o.known o.reached made (rw o.looked refl) (λ b h. rw o.looked h)
