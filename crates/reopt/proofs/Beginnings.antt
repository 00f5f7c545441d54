-- What is known before the first round, and what is left.
use Rattle.std.proofs.Common.{◌≡◌, ◌≢◌, ℕ, ◌^◌, ◌<◌, ◌⊎◌, inl, inr, ⊎_elim, Bool, true, false, ◌==◌, List, Contains, slice_index_or, refl, sym, ap, ◌∙◌, subst, arith, eq-eqb}
use Rattle.std.proofs.lemmas.List.Kept.{AllPairs-filter}
use Rattle.dpe_base.specs.declared.TheConstants.{EMPTY}
use Rattle.dpe_base.specs.declared.pair.Pair.{Pair}
use Rattle.dpe_base.specs.Queries.{JoinQuery, relations, IsQuery}
use Rattle.dpe_base.specs.Sets.{Has, member, union}
use Rattle.dpe_base.proofs.SizeLaws.{full_below}
use Rattle.join_graph.specs.Graphs.{Connected, graph_of}
use Rattle.join_graph.proofs.GraphLaws.{connected_union}
use Rattle.pair_stream.specs.Orders.{Ordered}
use Rattle.pair_stream.proofs.Lists.{contains_filter, contains_from_filter}
use Rattle.join_graph.specs.PairLists.{HasAllPairs}
use Rattle.join_graph.proofs.Edges.{graph_is}
use Rattle.pair_stream.specs.Connectivity.{is_connected}
use Rattle.pair_stream.proofs.ConnectivityLaws.{is_connected_true}
use Rattle.join_tree.specs.Trees.{Least, Made, IsEmptyOrMade}
use Rattle.join_tree.proofs.BestLaws.{least_best, empty_never_made}
use Rattle.dpe_engine.specs.Engines.{EnginePlan, SeededPlan, IsKnown, MayStandBefore, IsRest}
use Rattle.dpe_engine.proofs.Ends.{all_rest}
use Rattle.enum_dpccp.specs.Touching.{touches, touching}
use Rattle.reopt.specs.Keeping.{IsBestWord, KeepsOthers}
use Rattle.reopt.specs.Offers.{HasOffered}
use Rattle.reopt.proofs.WordOffers.{not_both}

-- ---- the list

-- the union of a pair is known, or each pair with this union is touched
by_touch : (q : JoinQuery) (pairs : List Pair) (r : ℕ) (known : ℕ → Type 0) → HasAllPairs (graph_of q) pairs → ((t : ℕ) → Connected (graph_of q) t → (Has t r → ⊥) → known t) → (p : Pair) → Contains pairs p → (b : Bool) → touches r p ≡ b
    → known (union p.a p.b) ⊎ ((x : Pair) → Contains pairs x → union x.a x.b ≡ union p.a p.b → Contains (touching r pairs) x)
by_touch q pairs r known all others p c true e = inr (λ x cx over. contains_filter (touches r) pairs x cx (ap (λ u. member u r == 1) over ∙ e))
by_touch q pairs r known all others p c false e =
    let h = (all p).0 c in
    inl (others (union p.a p.b) (connected_union (graph_of q) p.a p.b h.first h.second h.crossed) (λ has. not_both (touches r p) e (eq-eqb (member (union p.a p.b) r) 1 has)))

-- the touched pairs are all that is left, where the connected sets without the relation are known
pub touched_rest : (q : JoinQuery) (pairs : List Pair) (r : ℕ) (known : ℕ → Type 0) → HasAllPairs (graph_of q) pairs → Ordered pairs
    → ((t : ℕ) → Connected (graph_of q) t → (Has t r → ⊥) → known t) → IsRest pairs known (touching r pairs)
touched_rest q pairs r known all ordered others =
    record {
      listed = λ p c. contains_from_filter (touches r) pairs p c;
      once = AllPairs-filter (λ x y. x ≢ y) (touches r) pairs ordered.once;
      order = AllPairs-filter MayStandBefore (touches r) pairs (all_rest pairs known ordered).order;
      given = λ p c. by_touch q pairs r known all others p c (touches r p) refl;
    }

-- ---- the words

-- a word that is kept may be offered
pub may_offer : (kind : ℕ) (q : JoinQuery) (pairs : List Pair) (s w : ℕ) → IsQuery q → HasAllPairs (graph_of q) pairs → IsBestWord kind q s w → IsEmptyOrMade kind q pairs s w
may_offer kind q pairs s w ok all is = by_test (is_connected (graph_of q) s) refl
  where
    by_test : (b : Bool) → is_connected (graph_of q) s ≡ b → IsEmptyOrMade kind q pairs s w
    by_test true e = inr ((least_best kind q pairs ok all s w).1 (is.best ((is_connected_true (graph_of q) s (graph_is q ok)).0 e))).made
    by_test false e = inl (is.none (λ c. not_both (is_connected (graph_of q) s) e ((is_connected_true (graph_of q) s (graph_is q ok)).1 c)))

-- the least words of the sets without the relation are known once they were offered
pub other_known : (kind : ℕ) (q : JoinQuery) (row : List ℕ) (r n : ℕ) (before e : SeededPlan) → IsQuery q → e.plan.query ≡ q → HasAllPairs (graph_of q) e.plan.pairs → n ≡ relations q → KeepsOthers kind q r row → HasOffered r row before e (2 ^ n)
    → (t : ℕ) → Connected (graph_of q) t → (Has t r → ⊥) → IsKnown kind e t
other_known kind q row r n before e ok same all size kept offered t c none =
    let word : ℕ = slice_index_or row t 0 in
    let low : t < 2 ^ relations q = full_below t (relations q) c.within in
    let low' : t < 2 ^ n = subst (λ (k : ℕ). t < 2 ^ k) (sym size) low in
    let least : Least kind q e.plan.pairs t word = (least_best kind q e.plan.pairs ok all t word).1 ((kept.each t low none).best c) in
    let some : 0 < t = let ne = c.some in omega arith in
    let F : JoinQuery → Type 0 = λ x. Least kind x e.plan.pairs t word in
    let G : ℕ → Type 0 = Made kind q e.plan.pairs t in
    ⊎_elim
    (λ (empty : word ≡ EMPTY). absurd (empty_never_made kind q e.plan.pairs t ok (subst G empty least.made)))
    (λ (stands : Contains e.words (t, word)). record { word = word; stands = stands; least = subst F (sym same) least })
    (offered.offered t some low' none)

pub left_is_rest : (kind : ℕ) (q : JoinQuery) (pairs : List Pair) (row : List ℕ) (r n b w : ℕ) (before e : SeededPlan) (stream : List Pair) → IsQuery q → e.plan ≡ (record { query = q; pairs = pairs; buffer = b; workers = w }) → HasAllPairs (graph_of q) pairs → Ordered pairs
    → n ≡ relations q → KeepsOthers kind q r row → HasOffered r row before e (2 ^ n) → stream ≡ touching r pairs → IsRest e.plan.pairs (IsKnown kind e) stream
left_is_rest kind q pairs row r n b w before e stream ok asked all ordered size kept offered touched =
    let list : e.plan.pairs ≡ pairs = ap (λ (p : EnginePlan). p.pairs) asked in
    let query : e.plan.query ≡ q = ap (λ (p : EnginePlan). p.query) asked in
    let H : List Pair → Type 0 = λ l. HasAllPairs (graph_of q) l in
    let F : List Pair → Type 0 = λ l. IsRest e.plan.pairs (IsKnown kind e) l in
    let all' : H e.plan.pairs = subst H (sym list) all in
    let same : touching r e.plan.pairs ≡ stream = ap (λ (l : List Pair). touching r l) list ∙ sym touched in
    subst F same (touched_rest q e.plan.pairs r (IsKnown kind e) all' (subst Ordered (sym list) ordered) (other_known kind q row r n before e ok query all' size kept offered))
