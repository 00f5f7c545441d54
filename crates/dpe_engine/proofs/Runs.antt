-- From buffer to buffer.
use Rattle.std.proofs.Common.{◌≡◌, ℕ, ◌+◌, ◌^◌, ◌<◌, ◌≤◌, ◌*◌, ◌⊎◌, inl, inr, ⊎_elim, min, Bool, List, [], ◌∷◌, ◌++◌, AllPairs, Contains, length, refl, sym, ap, ◌∙◌, subst, arith, length-append, append-nil, sum_by}
use Rattle.std.proofs.lemmas.Bool.{cases_lt}
use Rattle.std.proofs.lemmas.Bool.Decides.{nat_tests}
use Rattle.std.proofs.lemmas.Nat.{mul-pow}
use Rattle.std.proofs.lemmas.List.Sums.{sum_by-cons}
use Rattle.dpe_base.specs.declared.pair.Pair.{Pair}
use Rattle.dpe_base.specs.Queries.{JoinQuery, relations}
use Rattle.dpe_base.specs.Sets.{union, single}
use Rattle.dpe_base.proofs.Members.{contains_none}
use Rattle.join_graph.specs.Graphs.{Pairs, graph_of}
use Rattle.memo_table.specs.Seats.{SeatView, BoundsAreMade, Settled}
use Rattle.memo_table.specs.declared.view.View.{View}
use Rattle.memo_table.specs.Views.{with_floor, with_offer}
use Rattle.reorder_buffer.specs.Buffers.{BufferedPairs}
use Rattle.reorder_buffer.specs.Groups.{groups, groups_below, runs, rounds}
use Rattle.reorder_buffer.proofs.RunLaws.{runs-none, taken_is_run}
use Rattle.dpe_engine.specs.declared.run.shared.Shared.{Shared}
use Rattle.dpe_engine.specs.declared.run.producer.Producer.{Producer}
use Rattle.dpe_engine.specs.declared.run.consumer.Consumer.{Consumer}
use Rattle.dpe_engine.specs.declared.engine.Solved.{Solved}
use Rattle.dpe_engine.specs.Engines.{EnginePlan, with_word, IsKnown, MayStandBefore, IsRest, AreLeastWords, HasProcessed}
use Rattle.dpe_engine.specs.Running.Between.{IsBetween, AreLeft}
use Rattle.dpe_engine.specs.Running.{plan_of, IsPrepared, HasBegun, IsRunning, HasCounted, HasSameTotals, HasEnded, IsFinished}
use Rattle.dpe_engine.specs.Running.Buffers.{HasWorkedBuffer, IsFilled}
use Rattle.dpe_engine.proofs.Places.{few_pairs, few_in_all}
use Rattle.dpe_engine.proofs.Advances.{between_more, later_left}
use Rattle.dpe_engine.proofs.Ends.{known_settled, offered_words, between_first}
use Rattle.dpe_engine.proofs.PairSteps.{IsOffered, offering, stays_settled}

-- the first run of a list that begins with a full buffer, or is a shorter one alone
first_run : (b : ℕ) (xs ys : List Pair) → 1 ≤ b → 1 ≤ length xs → length xs ≤ b → (length xs < b → ys ≡ []) → runs b (xs ++ ys) ≡ xs ∷ runs b ys
first_run b xs ys some more fits ends = taken_is_run b (xs ++ ys) xs ys some refl fits ends (λ e. let n = ap (λ (l : List Pair). length l) e in let a = length-append xs ys in absurd (omega arith))

first_rounds : (b : ℕ) (xs ys : List Pair) → runs b (xs ++ ys) ≡ xs ∷ runs b ys → rounds b (xs ++ ys) ≡ length (groups xs) + rounds b ys
first_rounds b xs ys e = ap (λ (l : List (List Pair)). sum_by (λ run. length (groups run)) l) e ∙ sum_by-cons (λ run. length (groups run)) xs (runs b ys)

no_groups : length (groups []) ≡ 0
unfolding groups_below
no_groups = refl

-- rooms that a list doesn't fill give the same runs
short_runs : (b c : ℕ) (xs : List Pair) → length xs < b → length xs < c → runs b xs ≡ runs c xs
short_runs b c [] h k = runs-none b (omega arith) ∙ sym (runs-none c (omega arith))
short_runs b c (x ∷ xs) h k = alone b h ∙ sym (alone c k)
  where
    alone : (r : ℕ) → length (x ∷ xs) < r → runs r (x ∷ xs) ≡ (x ∷ xs) ∷ []
    alone r short =
        taken_is_run r (x ∷ xs) (x ∷ xs) [] (omega arith) (sym (append-nil (x ∷ xs))) (omega arith) (λ e. refl) (λ e. let n = ap (λ (l : List Pair). length l) e in absurd (omega arith))
        ∙ ap (λ (l : List (List Pair)). (x ∷ xs) ∷ l) (runs-none r (omega arith))

min_one : (k : ℕ) → 1 ≤ k → min k 1 ≡ 1
min_one k some = grind (arith, nat_tests)

min_none : (k : ℕ) → k ≡ 0 → min k 1 ≡ 0
min_none k none = grind (arith, nat_tests)

-- a room for more than there are pairs of sets, unless it is what was asked for
pub room_enough : (n sets buffer room : ℕ) → sets ≡ 2 ^ n → room ≡ min (sets * sets + 1) buffer → (room ≡ buffer) ⊎ (4 ^ n < room)
room_enough n sets buffer room e is =
    let pairs : 4 ^ n ≡ 2 ^ n * 2 ^ n = mul-pow 2 2 n in
    let square : sets * sets ≡ 2 ^ n * 2 ^ n = ap (λ (k : ℕ). k * k) e in
    elim (cases_lt (sets * sets + 1) buffer) [
      | inl low ↦ inr (omega arith)
      | inr high ↦ inl (omega arith)
    ]

-- and it gives the runs that were asked for
pub same_runs : (room buffer n : ℕ) (pairs : List Pair) → length pairs ≤ 4 ^ n → room ≤ buffer → (room ≡ buffer) ⊎ (4 ^ n < room) → runs buffer pairs ≡ runs room pairs
same_runs room buffer n pairs few fits enough = ⊎_elim
    (λ (e : room ≡ buffer). ap (λ (b : ℕ). runs b pairs) (sym e))
    (λ (more : 4 ^ n < room). short_runs buffer room pairs (omega arith) (omega arith))
    enough

-- ---- before the run

-- an engine is prepared still when a word was offered
pub prepared_still : {M : Type 0} (model buffer : ℕ) (shared : Shared M) (next : BufferedPairs) (consumer : Consumer M) (now : SeatView) (s w : ℕ) → IsPrepared model buffer shared next consumer
    → now.table ≡ consumer.seat.table → now.view ≡ with_offer consumer.seat.view s w → IsPrepared model buffer shared next (record consumer { seat = now })
prepared_still model buffer shared next consumer now s w p table view =
    let F : View → Type 0 = λ v. IsOffered consumer.seat.view v s w in
    let o : IsOffered consumer.seat.view now.view s w = subst F (sym view) (offering consumer.seat.view s w) in
    record {
      plan = p.plan;
      seat = record { table = table ∙ p.seat.table; query = o.query ∙ p.seat.query; pairs = o.pairs ∙ p.seat.pairs };
      weight = o.weight ∙ p.weight;
      tickets = o.tickets ∙ p.tickets;
      allowance = o.allowance ∙ p.allowance;
      leaves = λ r low. stays_settled model consumer.seat.view now.view (single r) o.query o.pairs o.bounds (p.leaves r low);
      some_room = p.some_room;
      same_room = p.same_room;
      fits = p.fits;
      enough = p.enough;
      free = record { empty = p.free.empty; room = p.free.room };
      none = p.none;
    }

pub offered_in : (v after : View) (s w : ℕ) → after ≡ with_offer v s w → after.bounds ≡ with_word v.bounds s w
offered_in v after s w is = ap (λ (x : View). x.bounds) is ∙ offered_words v s w

-- ---- the whole run

module _ {M : Type 0} (model buffer : ℕ) (shared : Shared M) (next : BufferedPairs) (consumer : Consumer M) (rest : List Pair) (p : IsPrepared model buffer shared next consumer)
    (left : IsRest shared.memo.pairs (IsKnown model (record { plan = plan_of shared buffer; words = consumer.seat.view.bounds })) rest) where
  rest_within : (x : Pair) → Contains rest x → Pairs (graph_of shared.memo.query) x
  rest_within x c = p.plan.planned.within x (left.listed x c)

  settled_rest : IsRest shared.memo.pairs (Settled model consumer.seat.view) rest
  settled_rest =
      record {
        listed = left.listed;
        once = left.once;
        order = left.order;
        given = λ x c. ⊎_elim
            (λ (k : IsKnown model (record { plan = plan_of shared buffer; words = consumer.seat.view.bounds }) (union x.a x.b)).
            inl (known_settled model (plan_of shared buffer) consumer.seat.view (union x.a x.b) p.seat.query p.seat.pairs k))
            (λ (all : (y : Pair) → Contains shared.memo.pairs y → union y.a y.b ≡ union x.a x.b → Contains rest y). inr all)
            (left.given x c);
      }

  -- the first buffer is filled
  pub begins : {P : Type 0} (streams : P → List Pair) (ended : P → Bool) (before after : Producer P) (now : SeatView) (n : ℕ) → before.next ≡ next → streams before.stream ≡ rest → IsFilled streams ended before after
      → now.table ≡ consumer.seat.table → now.view ≡ with_floor consumer.seat.view n → BoundsAreMade model now.view
      → IsRunning model streams ended shared (record after { next = consumer.full }) (record consumer { seat = now; full = after.next })
  begins streams ended before after now n same is f table view made =
      let whole : rest ≡ after.next.pairs ++ streams after.stream = sym is ∙ f.taken in
      let room : before.next.room ≡ next.room = ap (λ (b : BufferedPairs). b.room) same in
      let first : IsBetween model shared (Contains rest) 0 0 now = between_first model shared n rest consumer.seat now p.seat p.weight p.tickets p.allowance p.leaves settled_rest table view made in
      let F : List Pair → Type 0 = λ l. IsBetween model shared (Contains l) 0 0 now in
      let G : ℕ → Type 0 = λ k. IsBetween model shared (Contains (after.next.pairs ++ streams after.stream)) k 0 now in
      let H : ℕ → Type 0 = λ k. IsBetween model shared (Contains (after.next.pairs ++ streams after.stream)) consumer.pairs k now in
      record {
        plan = p.plan;
        free = record { empty = p.free.empty; room = p.free.room };
        few = let a = p.none.1 in omega arith;
        at = record {
          left = record {
            listed = λ x c. left.listed x (let C : List Pair → Type 0 = λ l. Contains l x in subst C (sym whole) c);
            order = subst (AllPairs MayStandBefore) whole left.order;
            few = let a = few_in_all shared.memo.query rest p.plan.planned.query rest_within left.once in let b = ap (λ (l : List Pair). length l) whole in let c = p.none.0 in omega arith;
          };
          between = subst H (sym p.none.2) (subst G (sym p.none.0) (subst F whole first));
        };
        same_room = p.same_room ∙ (sym room ∙ sym f.room);
        some_room = let a = f.room in let b = p.some_room in omega arith;
        fits = f.fits;
        last = λ h. f.short (let a = f.room in omega arith);
      }

  pub has_begun : {P : Type 0} (streams : P → List Pair) (ended : P → Bool) (before after : Producer P) (now : SeatView) → before.next ≡ next → streams before.stream ≡ rest → IsFilled streams ended before after
      → HasBegun (plan_of shared buffer) rest shared (record consumer { seat = now; full = after.next }) (after.next.pairs ++ streams after.stream)
  has_begun streams ended before after now same is f =
      let room : after.next.room ≡ next.room = f.room ∙ ap (λ (b : BufferedPairs). b.room) same in
      let few = few_pairs shared.memo.query rest p.plan.planned.query rest_within left.once in
      record {
        query = refl;
        list = refl;
        workers = refl;
        none = p.none;
        whole = sym f.taken ∙ is;
        same_runs = same_runs next.room buffer (relations shared.memo.query) rest few p.fits p.enough ∙ ap (λ (k : ℕ). runs k rest) (sym room);
      }

-- what was counted, and the words, are a run's
pub run_solved : {M : Type 0} (model : ℕ) (plan : EnginePlan) (rest coming : List Pair) (shared : Shared M) (first last : Consumer M) (solved : Solved) → HasBegun plan rest shared first coming → HasCounted first coming last → IsFinished model shared last solved
    → HasProcessed model plan rest solved
run_solved model plan rest coming shared first last solved h c e =
    let runs_are : runs plan.buffer rest ≡ runs first.full.room coming = h.same_runs ∙ ap (λ (l : List Pair). runs first.full.room l) (sym h.whole) in
    record {
      size = let F : JoinQuery → Type 0 = λ q. length solved.words.row ≡ 2 ^ relations q in subst F h.query e.size;
      words =
          let F : JoinQuery → Type 0 = λ q. AreLeastWords model q shared.memo.pairs solved.words.row in
          let G : List Pair → Type 0 = λ l. AreLeastWords model plan.query l solved.words.row in
          subst G h.list (subst F h.query e.words);
      pairs = let a = e.pairs in let b = c.count in let d = ap (λ (l : List Pair). length l) h.whole in let z = h.none.0 in omega arith;
      drawn = e.drawn ∙ ap (λ (k : ℕ). solved.pairs + k * solved.rounds) h.workers;
      buffers = let a = e.buffers in let b = c.buffers in let d = ap (λ (l : List (List Pair)). length l) runs_are in let z = h.none.1 in omega arith;
      all_rounds = let a = e.all_rounds in let b = c.all_rounds in let d = ap (λ (l : List (List Pair)). sum_by (λ run. length (groups run)) l) runs_are in let z = h.none.2 in omega arith;
    }

-- ---- from buffer to buffer

pub same_totals : {M : Type 0} (consumer : Consumer M) (left : List Pair) → HasSameTotals consumer left consumer left
same_totals consumer left = record { room = refl; count = refl; buffers = refl; all_rounds = refl }

pub totals_through : {M : Type 0} (first mid last : Consumer M) (xs ys zs : List Pair) → HasSameTotals first xs mid ys → HasSameTotals mid ys last zs → HasSameTotals first xs last zs
totals_through first mid last xs ys zs a b =
    record {
      room = b.room ∙ a.room;
      count = b.count ∙ a.count;
      buffers =
          let F : ℕ → Type 0 = λ r. last.buffers + length (runs r zs) ≡ mid.buffers + length (runs r ys) in
          subst F a.room b.buffers ∙ a.buffers;
      all_rounds =
          let F : ℕ → Type 0 = λ r. last.rounds + rounds r zs ≡ mid.rounds + rounds r ys in
          subst F a.room b.all_rounds ∙ a.all_rounds;
    }

module _ {P M : Type 0} (model : ℕ) (streams : P → List Pair) (ended : P → Bool) (shared : Shared M) (producer : Producer P) (consumer : Consumer M) (r : IsRunning model streams ended shared producer consumer)
    (worked : Consumer M) (w : HasWorkedBuffer model shared consumer worked) where
  abbrev full : List Pair
  full = consumer.full.pairs

  abbrev room : ℕ
  room = consumer.full.room

  abbrev later : List Pair
  later = streams producer.stream

  between : IsBetween model shared (Contains later) worked.pairs worked.rounds worked.seat
  between = w.between later r.at

  after_left : AreLeft shared worked.pairs later
  after_left = later_left shared consumer.pairs worked.pairs full later r.at.left w.pairs

  module _ (filled : Producer P) (whole : length full ≡ room) (f : IsFilled streams ended producer filled) where
    abbrev next_list : List Pair
    next_list = filled.next.pairs ++ streams filled.stream

    same : filled.next.room ≡ room
    same = f.room ∙ r.same_room

    pub goes_on : IsRunning model streams ended shared (record filled { next = worked.full }) (record worked { full = filled.next })
    goes_on =
        let F : List Pair → Type 0 = λ l. IsBetween model shared (Contains l) worked.pairs worked.rounds worked.seat in
        let some = r.some_room in
        record {
          plan = r.plan;
          free = record { empty = w.free.empty; room = w.free.room };
          few = let a = r.few in let b = w.buffers in let c = w.pairs in let m = min_one (length full) (omega arith) in omega arith;
          at = record {
            left = subst (AreLeft shared worked.pairs) f.taken after_left;
            between = subst F f.taken between;
          };
          same_room = w.room ∙ sym same;
          some_room = let e = same in omega arith;
          fits = f.fits;
          last = λ h. f.short (let b = f.room in omega arith);
        }

    pub same_counts : HasSameTotals consumer (full ++ later) (record worked { full = filled.next }) next_list
    same_counts =
        let some = r.some_room in
        let first = first_run room full later some (omega arith) r.fits (λ h. absurd (omega arith)) in
        record {
          room = same;
          count = let a = w.pairs in let b = ap (λ (l : List Pair). length l) f.taken in let c = length-append full later in omega arith;
          buffers =
              let b = ap (λ (l : List (List Pair)). length l) first in
              let c = ap (λ (l : List Pair). length (runs room l)) f.taken in
              let d = w.buffers in
              let m = min_one (length full) (omega arith) in omega arith;
          all_rounds =
              let b = first_rounds room full later first in
              let c = ap (λ (l : List Pair). rounds room l) f.taken in
              let d = w.counted in omega arith;
        }

    pub fewer : length filled.next.pairs + length (streams filled.stream) < length full + length later
    fewer =
        let a = ap (λ (l : List Pair). length l) f.taken in
        let b = length-append filled.next.pairs (streams filled.stream) in
        let c = r.some_room in omega arith

  -- the last buffer, which is not full
  module _ (short : length full < room) where
    none_left : later ≡ []
    none_left = (r.last short).0

    pub ends : HasEnded model shared worked
    ends =
        let F : List Pair → Type 0 = λ l. IsBetween model shared (Contains l) worked.pairs worked.rounds worked.seat in
        record { plan = r.plan; between = between_more model shared (Contains []) worked.pairs worked.rounds worked.seat r.plan (subst F none_left between) (λ p. ⊥) contains_none }

    pub last_counts : HasCounted consumer (full ++ later) worked
    last_counts =
        let whole : full ++ later ≡ full ++ [] = ap (λ (t : List Pair). full ++ t) none_left in
        let alone : 1 ≤ length full → runs room (full ++ []) ≡ full ∷ runs room [] = λ h. first_run room full [] r.some_room h r.fits (λ e. refl) in
        let over : runs room [] ≡ [] = runs-none room r.some_room in
        let no_run : length (runs room []) ≡ 0 = ap (λ (t : List (List Pair)). length t) over in
        let no_round : rounds room [] ≡ 0 = ap (λ (t : List (List Pair)). sum_by (λ run. length (groups run)) t) over in
        record {
          room = w.room;
          count = let a = w.pairs in let b = ap (λ (l : List Pair). length l) whole in let c = length-append full [] in omega arith;
          buffers =
              let a = w.buffers in
              let b = ap (λ (t : List Pair). length (runs room t)) whole in
              by_size full
              (λ e. let c = ap (λ (t : List Pair). length (runs room (t ++ []))) e in let n : length full ≡ 0 = ap (λ (t : List Pair). length t) e in let m = min_none (length full) n in omega arith)
              (λ h. let c = ap (λ (t : List (List Pair)). length t) (alone h) in let m = min_one (length full) h in omega arith);
          all_rounds =
              let a = w.counted in
              let b = ap (λ (t : List Pair). rounds room t) whole in
              by_size full
              (λ e. let c = ap (λ (t : List Pair). rounds room (t ++ [])) e in let m = ap (λ (t : List Pair). length (groups t)) e in let n = no_groups in omega arith)
              (λ h. let c = first_rounds room full [] (alone h) in omega arith);
        }
      where
        by_size : {P : Type 0} (xs : List Pair) → (xs ≡ [] → P) → (1 ≤ length xs → P) → P
        by_size [] a b = a refl
        by_size (x ∷ xs) a b = b (omega arith)

-- the counts of the last buffer are those that were still to come
pub counts_in_all : {M : Type 0} (first mid last : Consumer M) (xs ys : List Pair) → HasSameTotals first xs mid ys → HasCounted mid ys last → HasCounted first xs last
counts_in_all first mid last xs ys a b =
    record {
      room = b.room ∙ a.room;
      count = b.count ∙ a.count;
      buffers =
          let F : ℕ → Type 0 = λ r. last.buffers ≡ mid.buffers + length (runs r ys) in
          subst F a.room b.buffers ∙ a.buffers;
      all_rounds =
          let F : ℕ → Type 0 = λ r. last.rounds ≡ mid.rounds + rounds r ys in
          subst F a.room b.all_rounds ∙ a.all_rounds;
    }
