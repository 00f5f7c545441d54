-- The beginning and the end of a run: the first seat, and the words.
use Rattle.std.proofs.Common.{◌≡◌, ℕ, zero, ◌+◌, ◌*◌, ◌<◌, ◌≤◌, inl, inr, ⊎_elim, Bool, true, false, cond, ◌==◌, List, [], ◌∷◌, AllPairs, length, Contains, get_or, refl, sym, ap, ◌∙◌, subst, arith}
use Rattle.std.proofs.lemmas.Bool.Decides.{nat_tests}
use Rattle.std.proofs.lemmas.List.{get_or_default}
use Rattle.dpe_base.specs.declared.TheConstants.{EMPTY}
use Rattle.dpe_base.specs.declared.pair.Pair.{Pair}
use Rattle.dpe_base.specs.Queries.{JoinQuery, relations, IsQuery}
use Rattle.dpe_base.specs.Sets.{union, single}
use Rattle.card_scaled.specs.Cards.{IsCardTable}
use Rattle.join_graph.specs.Graphs.{Pairs, graph_of}
use Rattle.pair_stream.specs.Orders.{Ordered}
use Rattle.join_tree.specs.Trees.{Made, Least, Builds}
use Rattle.dpe_base.specs.declared.TheConstants.{WEIGHT, DRAWS, WORKERS_MAX}
use Rattle.memo_table.specs.declared.view.View.{View}
use Rattle.memo_table.specs.Finishing.{IsLeastBound}
use Rattle.memo_table.specs.Seats.{SeatView, IsSeatOf, BoundsAreMade, Settled}
use Rattle.memo_table.specs.Views.{EachOnceBelow, once_below, with_floor, with_offer}
use Rattle.memo_table.proofs.SeatLaws.{offer_if}
use Rattle.dpe_engine.specs.declared.run.shared.Shared.{Shared}
use Rattle.dpe_engine.specs.declared.engine.Solved.{Solved}
use Rattle.dpe_engine.specs.Engines.{EnginePlan, with_word, IsKnown, MayStandBefore, IsRest, HasProcessed, IsSolved, IsLeastWord}
use Rattle.dpe_engine.specs.Running.Between.{IsBetween, IsShared}
use Rattle.dpe_engine.proofs.PairSteps.{stays_settled}
use Rattle.dpe_engine.proofs.Advances.{workable, built_is_settled}

-- where each set that has a tree is settled, the least bounds are the least words
least_word : (model : ℕ) (v : View) (s w : ℕ) → BoundsAreMade model v → ((x : ℕ) → Made model v.query v.pairs s x → Settled model v s) → IsLeastBound v.bounds s w → IsLeastWord model v.query v.pairs s w
least_word model v s w made settled bound =
    record {
      least = λ x m.
          let t = settled x m in
          let p = bound.some t.word t.bound in
          let u : Made model v.query v.pairs s w = (made (s, w) p.0).made in
          let a = t.least.least w u in let b = p.1 in
          let same : t.word ≡ w = omega arith in
          let F : ℕ → Type 0 = Least model v.query v.pairs s in subst F same t.least;
      none = λ no. bound.none.1 (λ b has. no b (made (s, b) has).made);
    }

-- the words at the end, when no pair is to come
pub words_are : {M : Type 0} (model : ℕ) (shared : Shared M) (pairs_done rounds_done : ℕ) (v : SeatView) → IsShared shared → IsBetween model shared (λ p. ⊥) pairs_done rounds_done v
    → (s w : ℕ) → IsLeastBound v.view.bounds s w → IsLeastWord model shared.memo.query shared.memo.pairs s w
words_are model shared pairs_done rounds_done v plan b s w bound =
    let q = b.seat.query in
    let l = b.seat.pairs in
    let none : Pair → Type 0 = λ p. ⊥ in
    let settled : (x : ℕ) → Made model shared.memo.query shared.memo.pairs s x → Settled model v.view s = λ x m.
    built_is_settled model shared none pairs_done rounds_done v plan b s ((workable model shared plan).built s x m) (λ p over c. c) in
    let least = least_word model v.view s w b.made (λ x m. settled x (subst (λ (y : List Pair). Made model shared.memo.query y s x) l (subst (λ (y : JoinQuery). Made model y v.view.pairs s x) q m))) bound in
    let G : JoinQuery → Type 0 = λ x. IsLeastWord model x v.view.pairs s w in
    let H : List Pair → Type 0 = λ x. IsLeastWord model shared.memo.query x s w in
    subst H l (subst G q least)

-- ---- what is shared

-- a list that builds its sides
pub builds_of : (q : JoinQuery) (list : List Pair) → ((p : Pair) → Contains list p → Pairs (graph_of q) p) → Ordered list → Builds (graph_of q) list
builds_of q list within order = record { within = within; sides = order.sides }

-- what is shared, of a query and such a list
pub shared_of : {M : Type 0} (shared : Shared M) (q : JoinQuery) (list : List Pair) → shared.memo.query ≡ q → shared.memo.pairs ≡ list → IsQuery q → Builds (graph_of q) list → IsCardTable q shared.cards
    → 1 ≤ shared.workers → shared.workers ≤ WORKERS_MAX → IsShared shared
shared_of shared q list e same ok builds rows some few =
    let Q : JoinQuery → Type 0 = λ x. Builds (graph_of x) list in
    let L : List Pair → Type 0 = λ l. Builds (graph_of shared.memo.query) l in
    let R : JoinQuery → Type 0 = λ x. IsCardTable x shared.cards in
    let built : Builds (graph_of shared.memo.query) shared.memo.pairs = subst L (sym same) (subst Q (sym e) builds) in
    record {
      planned = record { query = subst IsQuery (sym e) ok; within = built.within; rows = subst R (sym e) rows };
      builds = built;
      some = some;
      few = few;
    }

pub leaves_of : (model : ℕ) (p q : JoinQuery) (v : View) → p ≡ q → ((r : ℕ) → r < relations q → Settled model v (single r)) → (r : ℕ) → r < relations p → Settled model v (single r)
leaves_of model p q v e leaves = let G : JoinQuery → Type 0 = λ x. (r : ℕ) → r < relations x → Settled model v (single r) in subst G (sym e) leaves

-- ---- what is known

-- a set is known by the words exactly where it is settled in the view with these bounds
pub known_settled : (model : ℕ) (plan : EnginePlan) (v : View) (s : ℕ) → v.query ≡ plan.query → v.pairs ≡ plan.pairs → IsKnown model (record { plan = plan; words = v.bounds }) s → Settled model v s
known_settled model plan v s q l k = record { word = k.word; bound = k.stands; least = rw (q, l) k.least }

pub settled_known : (model : ℕ) (plan : EnginePlan) (v : View) (s : ℕ) → v.query ≡ plan.query → v.pairs ≡ plan.pairs → Settled model v s → IsKnown model (record { plan = plan; words = v.bounds }) s
settled_known model plan v s q l k = record { word = k.word; stands = k.bound; least = rw (sym q, sym l) k.least }

-- the words of an engine are those of its view, and an offer adds one
pub offered_words : (v : View) (s w : ℕ) → (with_offer v s w).bounds ≡ with_word v.bounds s w
offered_words v s w = by_cases (w == EMPTY)
  where
    by_cases : (b : Bool) → (offer_if v s w b).bounds ≡ cond b v.bounds ((s, w) ∷ v.bounds)
    by_cases true = refl
    by_cases false = refl

-- all pairs of an ordered list are left, whatever is known
pub all_rest : (pairs : List Pair) (known : ℕ → Type 0) → Ordered pairs → IsRest pairs known pairs
all_rest pairs known o =
    record {
      listed = λ p c. c;
      once = o.once;
      order = may_stand;
      given = λ p c. inr (λ x d over. d);
    }
  where
    may_stand : AllPairs MayStandBefore pairs
    may_stand j k d l in_list b =
        let first : j < length pairs = omega (arith, l, in_list) in
        let turned : k < j =
        o.before k j (get_or pairs k d) (get_or pairs j d) (in_list, get_or_default pairs k (get_or pairs k d) d in_list) (first, get_or_default pairs j (get_or pairs j d) d first) b in
        omega (arith, l, turned)

pub stream_rest : (plan asked : EnginePlan) (known : ℕ → Type 0) (stream : List Pair) → plan ≡ asked → stream ≡ asked.pairs → Ordered plan.pairs → IsRest plan.pairs known stream
stream_rest plan asked known stream e is o =
    let same : plan.pairs ≡ stream = ap (λ (x : EnginePlan). x.pairs) e ∙ sym is in
    subst (IsRest plan.pairs known) same (all_rest plan.pairs known o)

-- and such a run is one over all pairs
pub stream_solved : (model : ℕ) (plan asked : EnginePlan) (stream : List Pair) (solved : Solved) → plan ≡ asked → stream ≡ asked.pairs → HasProcessed model plan stream solved → IsSolved model asked solved
stream_solved model plan asked stream solved e is s =
    let F : EnginePlan → Type 0 = λ x. HasProcessed model x stream solved in
    let G : List Pair → Type 0 = λ l. HasProcessed model asked l solved in
    subst G is (subst F e s)

-- ---- the first seat

none_drawn : EachOnceBelow 0 []
none_drawn = record { count = refl; once = λ x. none_below x }
  where
    none_below : (x : ℕ) → zero ≡ once_below x 0
    none_below x = grind (arith, nat_tests)

-- what the first seat knows, once the counter was looked at, where the rest is to come
pub between_first : {M : Type 0} (model : ℕ) (shared : Shared M) (n : ℕ) (rest : List Pair) (s t : SeatView) → IsSeatOf shared.memo s → s.view.weight ≡ WEIGHT → s.view.tickets ≡ [] → s.view.allowance ≡ DRAWS
    → ((r : ℕ) → r < relations shared.memo.query → Settled model s.view (single r)) → IsRest shared.memo.pairs (Settled model s.view) rest
    → t.table ≡ s.table → t.view ≡ with_floor s.view n → BoundsAreMade model t.view → IsBetween model shared (Contains rest) 0 0 t
between_first model shared n rest s t seat weight tickets allowance leaves left table view made =
    let same_query : t.view.query ≡ s.view.query = ap (λ (v : View). v.query) view in
    let same_pairs : t.view.pairs ≡ s.view.pairs = ap (λ (v : View). v.pairs) view in
    let grow : (b : ℕ × ℕ) → Contains s.view.bounds b → Contains t.view.bounds b = λ b c. let F : View → Type 0 = λ v. Contains v.bounds b in subst F (sym view) c in
    let stays : (r : ℕ) → Settled model s.view r → Settled model t.view r = λ r h. stays_settled model s.view t.view r same_query same_pairs grow h in
    record {
      seat = record { table = table ∙ seat.table; query = same_query ∙ seat.query; pairs = same_pairs ∙ seat.pairs };
      weight = ap (λ (v : View). v.weight) view ∙ weight;
      made = made;
      leaves = λ r low. stays (single r) (leaves r low);
      given = λ p c. ⊎_elim
          (λ (k : Settled model s.view (union p.a p.b)). inl (stays (union p.a p.b) k))
          (λ (all : (x : Pair) → Contains shared.memo.pairs x → union x.a x.b ≡ union p.a p.b → Contains rest x). inr (λ x d over. inr (all x d over)))
          (left.given p c);
      tickets =
          let none : t.view.tickets ≡ [] = ap (λ (v : View). v.tickets) view ∙ tickets in
          let F : List ℕ → Type 0 = λ l. EachOnceBelow 0 l in
          let G : ℕ → Type 0 = λ k. EachOnceBelow k t.view.tickets in
          let z : 0 ≡ 0 + shared.workers * 0 = omega arith in subst G z (subst F (sym none) none_drawn);
      allowance = let a = ap (λ (v : View). v.allowance) view in omega arith;
      few = omega arith;
    }
