-- From group to group of a buffer.
use Rattle.std.proofs.Common.{◌≡◌, ℕ, ◌+◌, ◌*◌, ◌<◌, ◌≤◌, ◌⊎◌, inl, inr, ⊎_elim, List, [], ◌∷◌, ◌++◌, AllPairs, Contains, length, sym, ap, ◌∙◌, subst, arith, length-append, mul-le-mul_right, mul-add}
use Rattle.std.proofs.lemmas.Bool.{cases_lt}
use Rattle.std.proofs.lemmas.List.Elements.{All-contains, Contains-append_left, Contains-append_right, Contains-append_cases}
use Rattle.dpe_base.specs.declared.TheConstants.{WORKERS_MAX}
use Rattle.dpe_base.specs.declared.pair.Pair.{Pair}
use Rattle.dpe_base.specs.Queries.{relations}
use Rattle.dpe_base.specs.Sets.{union, single, size}
use Rattle.pair_stream.specs.Orders.{BuildsSide}
use Rattle.pair_stream.proofs.Lists.{pairs_head, pairs_tail}
use Rattle.dpe_base.proofs.Members.{contains_none, contains_cases}
use Rattle.join_tree.specs.BuiltLists.{IsBuilt, HasBestPair, IsWorkable}
use Rattle.join_tree.proofs.BuiltLists.{built_lists_are_workable}
use Rattle.memo_table.specs.Seats.{SeatView, Settled}
use Rattle.memo_table.specs.Views.{EachOnceBelow}
use Rattle.reorder_buffer.specs.declared.TheConstants.{SIZES}
use Rattle.reorder_buffer.specs.Buffers.{AreSmall}
use Rattle.reorder_buffer.specs.Groups.{union_size, group_of, groups_below}
use Rattle.dpe_engine.specs.Working.{IsDone}
use Rattle.dpe_engine.specs.Rounds.{MayWorkRound, HasWorkedRound}
use Rattle.dpe_engine.specs.declared.run.shared.Shared.{Shared}
use Rattle.dpe_engine.specs.Engines.{MayStandBefore}
use Rattle.dpe_engine.specs.Running.Between.{below, IsBetween, IsShared, AreLeft, IsToCome}
use Rattle.dpe_engine.proofs.PairSteps.{stays_settled}
use Rattle.dpe_engine.proofs.Bursts.{more_done}
use Rattle.dpe_engine.proofs.Settles.{settles}
use Rattle.dpe_engine.proofs.Places.{in_group, group_has, length-below, none_below, all_sizes}
use Rattle.dpe_engine.proofs.Members.{union_size_is, length_below-le}

pub workable : {M : Type 0} (model : ℕ) (shared : Shared M) → IsShared shared → IsWorkable model shared.memo.query shared.memo.pairs
workable model shared plan = built_lists_are_workable model shared.memo.query shared.memo.pairs plan.planned.query plan.builds

-- of two lists, one after the other
across : (xs ys : List Pair) (p x : Pair) → AllPairs MayStandBefore (xs ++ ys) → Contains xs p → Contains ys x → MayStandBefore p x
across [] ys p x order c d = absurd (contains_none p c)
across (z ∷ zs) ys p x order c d =
    elim (contains_cases z zs p c) [
      | inl e ↦ subst (λ (w : Pair). MayStandBefore w x) e (pairs_head MayStandBefore z (zs ++ ys) order x (Contains-append_right zs ys x d))
      | inr t ↦ across zs ys p x (pairs_tail MayStandBefore z (zs ++ ys) order) t d
    ]

pub later_order : (xs ys : List Pair) → AllPairs MayStandBefore (xs ++ ys) → AllPairs MayStandBefore ys
later_order [] ys order = order
later_order (z ∷ zs) ys order = later_order zs ys (pairs_tail MayStandBefore z (zs ++ ys) order)

module _ {M : Type 0} (model : ℕ) (shared : Shared M) (to_come : Pair → Type 0) (pairs_done rounds_done : ℕ) (s : SeatView) (plan : IsShared shared) (b : IsBetween model shared to_come pairs_done rounds_done s) where
  law : IsWorkable model shared.memo.query shared.memo.pairs
  law = workable model shared plan

  by_pairs : (t : ℕ) → HasBestPair model shared.memo.query shared.memo.pairs t → ((x : Pair) → Contains shared.memo.pairs x → union x.a x.b ≡ t → IsDone model shared.memo.query shared.memo.pairs s.view.bounds x) → Settled model s.view t
  by_pairs t best all =
      let q = b.seat.query in
      let l = b.seat.pairs in
      let F : List Pair → Type 0 = λ y. (r : Pair) → Contains y r → Contains shared.memo.pairs r in
      let back : (r : Pair) → Contains s.view.pairs r → Contains shared.memo.pairs r = subst F (sym l) (λ r h. h) in
      settles model s.view (rw q plan.planned.query) b.made t (rw (q, l) best) (λ r h over. rw (q, l) (all r (back r h) over))

  -- a set that the list builds is settled where no pair with this union is still to come
  pub built_is_settled : (t : ℕ) → IsBuilt shared.memo.query shared.memo.pairs t → ((x : Pair) → union x.a x.b ≡ t → to_come x → ⊥) → Settled model s.view t
  built_is_settled t built none = ⊎_elim
      (λ (leaf : (r : ℕ) × (r < relations shared.memo.query) × (t ≡ single r)). subst (Settled model s.view) (sym leaf.2) (b.leaves leaf.0 leaf.1))
      (λ (pair : (p : Pair) × Contains shared.memo.pairs p × (union p.a p.b ≡ t)). ⊎_elim
      (λ (k : Settled model s.view (union pair.0.a pair.0.b)). subst (Settled model s.view) pair.2 k)
      (λ (all : (x : Pair) → Contains shared.memo.pairs x → union x.a x.b ≡ union pair.0.a pair.0.b → IsDone model shared.memo.query shared.memo.pairs s.view.bounds x ⊎ to_come x).
      by_pairs t (subst (HasBestPair model shared.memo.query shared.memo.pairs) pair.2 (law.best_pair pair.0 pair.1))
      (λ x c over. ⊎_elim (λ (d : IsDone model shared.memo.query shared.memo.pairs s.view.bounds x). d) (λ (h : to_come x). absurd (none x over h)) (all x c (over ∙ sym pair.2))))
      (b.given pair.0 pair.1))
      built

  -- the same where more may be to come
  pub between_more : (more : Pair → Type 0) → ((x : Pair) → to_come x → more x) → IsBetween model shared more pairs_done rounds_done s
  between_more more within =
      record {
        seat = b.seat;
        weight = b.weight;
        made = b.made;
        leaves = b.leaves;
        given = λ p c. ⊎_elim
            (λ (k : Settled model s.view (union p.a p.b)). inl k)
            (λ (all : (x : Pair) → Contains shared.memo.pairs x → union x.a x.b ≡ union p.a p.b → IsDone model shared.memo.query shared.memo.pairs s.view.bounds x ⊎ to_come x).
            inr (λ x d over. ⊎_elim (λ (e : IsDone model shared.memo.query shared.memo.pairs s.view.bounds x). inl e) (λ (h : to_come x). inr (within x h)) (all x d over)))
            (b.given p c);
        tickets = b.tickets;
        allowance = b.allowance;
        few = b.few;
      }

module _ {M : Type 0} (model : ℕ) (shared : Shared M) (n before pairs_done rounds_done : ℕ) (buffer later : List Pair) (s : SeatView)
    (plan : IsShared shared) (left : AreLeft shared before (buffer ++ later)) (b : IsBetween model shared (IsToCome n buffer later) pairs_done rounds_done s) where
  in_list : (p : Pair) → Contains buffer p → Contains shared.memo.pairs p
  in_list p c = left.listed p (Contains-append_left buffer later p c)

  -- what builds a side of a pair of the group is not still to come: it has a smaller union, and no later pair builds the side
  side : (p : Pair) (t : ℕ) → Contains buffer p → IsBuilt shared.memo.query shared.memo.pairs t → size t < n → ((x : Pair) → union x.a x.b ≡ t → BuildsSide x p) → Settled model s.view t
  side p t c built low builds =
      built_is_settled model shared (IsToCome n buffer later) pairs_done rounds_done s plan b t built
      (λ x over h. ⊎_elim
      (λ (near : Contains buffer x × (n ≤ union_size x)). let z = ap size over in let u = union_size_is x in let m = near.1 in omega arith)
      (λ (far : Contains later x). across buffer later p x left.order c far (builds x over))
      h)

  group_few : length (group_of n buffer) ≤ length buffer
  group_few = let a = length-below n buffer in let c = length_below-le (n + 1) buffer in omega arith

  pub may_work_round : pairs_done ≡ before + length (below n buffer) → MayWorkRound model shared.memo shared.workers (group_of n buffer) s
  may_work_round counted =
      let group : List Pair = group_of n buffer in
      record {
        some = plan.some;
        few = plan.few;
        seat = b.seat;
        weight = b.weight;
        allowance =
            let a = b.allowance in let t = b.few in let f = left.few in let g = group_few in
            let e = length-append buffer later in let h = length_below-le n buffer in
            let c : shared.workers * rounds_done ≤ WORKERS_MAX * rounds_done = mul-le-mul_right rounds_done plan.few in
            let d : shared.workers * (length group + 1) ≤ WORKERS_MAX * (length group + 1) = mul-le-mul_right (length group + 1) plan.few in omega arith;
        workable = record {
          listed = λ p c. rw b.seat.pairs (in_list p (in_group n buffer p c).0);
          sides = λ p c.
              let g = in_group n buffer p c in
              let l = in_list p g.0 in
              let law = workable model shared plan in
              let small = law.smaller p l in
              let built = law.sides p l in
              let u = union_size_is p in let z = g.1 in
              let low = small.0 in let low' = small.1 in
              (side p p.a g.0 built.0 (omega arith) (λ r e. inl e), side p p.b g.0 built.1 (omega arith) (λ r e. inr e));
        };
      }

-- a round more
module _ {M : Type 0} (model : ℕ) (shared : Shared M) (base n pairs_done rounds_done : ℕ) (buffer later : List Pair) (s t : SeatView)
    (b : IsBetween model shared (IsToCome n buffer later) pairs_done rounds_done s) (w : HasWorkedRound model shared.memo base shared.workers (group_of n buffer) s t) where
  same_query : t.view.query ≡ s.view.query
  same_query = w.seat.query ∙ sym b.seat.query

  same_pairs : t.view.pairs ≡ s.view.pairs
  same_pairs = w.seat.pairs ∙ sym b.seat.pairs

  stays : (r : ℕ) → Settled model s.view r → Settled model t.view r
  stays r h = stays_settled model s.view t.view r same_query same_pairs w.bounds h

  -- a pair of the group is done now
  moves_on : (x : Pair) → IsDone model shared.memo.query shared.memo.pairs s.view.bounds x ⊎ IsToCome n buffer later x
      → IsDone model shared.memo.query shared.memo.pairs t.view.bounds x ⊎ IsToCome (n + 1) buffer later x
  moves_on x h = ⊎_elim
      (λ (d : IsDone model shared.memo.query shared.memo.pairs s.view.bounds x). inl (more_done model shared.memo.query shared.memo.pairs s.view.bounds t.view.bounds x w.bounds d))
      (λ (k : IsToCome n buffer later x). ⊎_elim
      (λ (near : Contains buffer x × (n ≤ union_size x)). elim (cases_lt n (union_size x)) [
        | inl more ↦ inr (inl (near.0, omega (arith, more)))
        | inr most ↦ inl (w.done x (group_has n buffer x near.0 (omega (arith, most, near.1))))
      ])
      (λ (far : Contains later x). inr (inr far))
      k)
      h

  pub after_round : 1 ≤ length (group_of n buffer) → IsBetween model shared (IsToCome (n + 1) buffer later) (pairs_done + length (group_of n buffer)) (rounds_done + 1) t
  after_round some =
      let m : shared.workers * (rounds_done + 1) ≡ shared.workers * rounds_done + shared.workers * 1 = mul-add shared.workers rounds_done 1 in
      let began = w.began.count in let counted = b.tickets.count in
      record {
        seat = w.seat;
        weight = w.weight;
        made = w.made;
        leaves = λ r h. stays (single r) (b.leaves r h);
        given = λ p c. ⊎_elim
            (λ (k : Settled model s.view (union p.a p.b)). inl (stays (union p.a p.b) k))
            (λ (all : (x : Pair) → Contains shared.memo.pairs x → union x.a x.b ≡ union p.a p.b → IsDone model shared.memo.query shared.memo.pairs s.view.bounds x ⊎ IsToCome n buffer later x).
            inr (λ x d over. moves_on x (all x d over)))
            (b.given p c);
        tickets = let F : ℕ → Type 0 = λ k. EachOnceBelow k t.view.tickets in
            let e : base + length (group_of n buffer) + shared.workers ≡ pairs_done + length (group_of n buffer) + shared.workers * (rounds_done + 1) = omega arith in subst F e w.tickets;
        allowance = let a = w.allowance in let c = b.allowance in omega arith;
        few = let a = b.few in omega arith;
      }

-- the group of the next size is counted with those before it
pub next_group : {M : Type 0} (model : ℕ) (shared : Shared M) (n before rounds_done : ℕ) (buffer later : List Pair) (s : SeatView) → IsBetween model shared (IsToCome (n + 1) buffer later) (before + length (below n buffer) + length (group_of n buffer)) rounds_done s
    → IsBetween model shared (IsToCome (n + 1) buffer later) (before + length (below (n + 1) buffer)) rounds_done s
next_group model shared n before rounds_done buffer later s b =
    let F : ℕ → Type 0 = λ k. IsBetween model shared (IsToCome (n + 1) buffer later) k rounds_done s in
    let e : before + length (below n buffer) + length (group_of n buffer) ≡ before + length (below (n + 1) buffer) = let a = length-below n buffer in omega arith in
    subst F e b

-- an empty group is no round
pub no_round : {M : Type 0} (model : ℕ) (shared : Shared M) (n before rounds_done : ℕ) (buffer later : List Pair) (s : SeatView) → IsShared shared → IsBetween model shared (IsToCome n buffer later) (before + length (below n buffer)) rounds_done s → length (group_of n buffer) ≡ 0
    → IsBetween model shared (IsToCome (n + 1) buffer later) (before + length (below (n + 1) buffer)) rounds_done s
no_round model shared n before rounds_done buffer later s plan b none =
    let F : ℕ → Type 0 = λ k. IsBetween model shared (IsToCome (n + 1) buffer later) k rounds_done s in
    let e : before + length (below n buffer) ≡ before + length (below (n + 1) buffer) = let a = length-below n buffer in omega arith in
    subst F e (between_more model shared (IsToCome n buffer later) (before + length (below n buffer)) rounds_done s plan b (IsToCome (n + 1) buffer later) on)
  where
    on : (x : Pair) → IsToCome n buffer later x → IsToCome (n + 1) buffer later x
    on x h = ⊎_elim
        (λ (near : Contains buffer x × (n ≤ union_size x)). elim (cases_lt n (union_size x)) [
          | inl more ↦ inl (near.0, omega (arith, more))
          | inr most ↦ let c : Contains (group_of n buffer) x = group_has n buffer x near.0 (omega (arith, most, near.1)) in let low = c.1 in absurd (omega arith)
        ])
        (λ (far : Contains later x). inr far)
        h

-- before the first group
pub begins_buffer : {M : Type 0} (model : ℕ) (shared : Shared M) (before rounds_done : ℕ) (buffer later : List Pair) (s : SeatView) → IsShared shared → IsBetween model shared (Contains (buffer ++ later)) before rounds_done s
    → IsBetween model shared (IsToCome 0 buffer later) (before + length (below 0 buffer)) rounds_done s
begins_buffer model shared before rounds_done buffer later s plan b =
    let F : ℕ → Type 0 = λ k. IsBetween model shared (IsToCome 0 buffer later) k rounds_done s in
    let e : before ≡ before + length (below 0 buffer) = let a = ap (λ (l : List Pair). length l) (none_below buffer) in omega arith in
    subst F e (between_more model shared (Contains (buffer ++ later)) before rounds_done s plan b (IsToCome 0 buffer later)
    (λ x c. ⊎_elim (λ (near : Contains buffer x). inl (near, omega arith)) (λ (far : Contains later x). inr far) (Contains-append_cases buffer later x c)))

-- all groups of the buffer are the buffer
pub buffer_done : {M : Type 0} (model : ℕ) (shared : Shared M) (before rounds_done : ℕ) (buffer later : List Pair) (s : SeatView) → IsShared shared → AreSmall buffer → IsBetween model shared (IsToCome SIZES buffer later) (before + length (below SIZES buffer)) rounds_done s
    → IsBetween model shared (Contains later) (before + length buffer) rounds_done s
buffer_done model shared before rounds_done buffer later s plan small b =
    let F : ℕ → Type 0 = λ k. IsBetween model shared (Contains later) k rounds_done s in
    let e : before + length (below SIZES buffer) ≡ before + length buffer = let a = ap (λ (l : List Pair). length l) (all_sizes buffer small) in omega arith in
    subst F e (between_more model shared (IsToCome SIZES buffer later) (before + length (below SIZES buffer)) rounds_done s plan b (Contains later)
    (λ x h. ⊎_elim
    (λ (near : Contains buffer x × (SIZES ≤ union_size x)). let low : union_size x < SIZES = All-contains (λ p. union_size p < SIZES) buffer x small near.0 in let high = near.1 in absurd (omega arith))
    (λ (far : Contains later x). far)
    h))

-- what is left after the buffer
pub later_left : {M : Type 0} (shared : Shared M) (before after : ℕ) (buffer later : List Pair) → AreLeft shared before (buffer ++ later) → after ≡ before + length buffer → AreLeft shared after later
later_left shared before after buffer later left is =
    record {
      listed = λ p c. left.listed p (Contains-append_right buffer later p c);
      order = later_order buffer later left.order;
      few = let a = left.few in let b = length-append buffer later in omega arith;
    }

pub none_counted : (rounds_done : ℕ) (buffer : List Pair) → rounds_done ≡ rounds_done + length (groups_below 0 buffer)
unfolding groups_below
none_counted rounds_done buffer = omega arith

pub counted_on : (n rounds_done total total' : ℕ) (buffer : List Pair) → total ≡ rounds_done + length (groups_below n buffer) → total' + length (groups_below n buffer) ≡ total + length (groups_below (n + 1) buffer) → total' ≡ rounds_done + length (groups_below (n + 1) buffer)
counted_on n rounds_done total total' buffer a b = omega arith
