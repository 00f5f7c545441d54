-- What a certificate shows, and that every plan has one.
use Rattle.std.proofs.Common.{◌≡◌, ◌<◌, ◌∙◌, ℕ, ◌≤◌, inl, inr, arith, refl, sym, ap, subst, List}
use Rattle.std.proofs.lemmas.Bool.{cases_lt}
use Rattle.dpe_base.specs.declared.TheConstants.{COST_LIMIT}
use Rattle.dpe_base.specs.Queries.{JoinQuery, relations, IsQuery}
use Rattle.dpe_base.specs.Sets.{Disjoint, single, full}
use Rattle.join_graph.specs.Graphs.{Connected, Crossed, pair_of, graph_of}
use Rattle.join_graph.proofs.GraphLaws.{crossed_back, connected_single, pair_either}
use Rattle.cost_model.specs.Words.{word_cost}
use Rattle.join_tree.specs.Laws.{IsNoWorse}
use Rattle.join_tree.specs.Trees.{JoinTree, leaf, join, Legal, Best, Plan, set_of, cost}
use Rattle.join_tree.proofs.BestLaws.{HasBest, best_cost, word_reads}
use Rattle.join_tree.proofs.LeastPlan.{plans_are_least}
use Rattle.join_tree.proofs.PlanLaws.{every_root}
use Rattle.join_tree.proofs.TreeLaws.{legal_connected}
use Rattle.cert_check.specs.Certificates.{IsCertificate, JoinBounded, bound_of}
use Rattle.cert_check.specs.Laws.{IsLowerBound, IsLeastCost, AreLeastCosts}

-- no tree undercuts the bound of its set
bound_below : (model : ℕ) (q : JoinQuery) (t : JoinTree) (bounds : List ℕ) → IsQuery q → IsCertificate model q t bounds → (u : JoinTree) → Legal model (graph_of q) u → bound_of bounds (set_of u) ≤ cost model q u
bound_below model q t bounds ok cert (leaf r) l = omega (arith, cert.alone r l)
bound_below model q t bounds ok cert (join op a b) m =
    let left : bound_of bounds (set_of a) ≤ cost model q a = bound_below model q t bounds ok cert a m.1 in
    let right : bound_of bounds (set_of b) ≤ cost model q b = bound_below model q t bounds ok cert b m.2 in
    let ca : Connected (graph_of q) (set_of a) = legal_connected model (graph_of q) a m.1 in
    let cb : Connected (graph_of q) (set_of b) = legal_connected model (graph_of q) b m.2 in
    elim (pair_either (graph_of q) (set_of a) (set_of b) ok.few ca cb m.3 m.4) [
      | inl p ↦ omega (arith, left, right, (cert.bounded (pair_of (set_of a) (set_of b)) p).0 op m.0)
      | inr p ↦ omega (arith, left, right, (cert.bounded (pair_of (set_of b) (set_of a)) p).1 op m.0)
    ]

pub bounds_are_lower_bounds : (model : ℕ) (q : JoinQuery) (t : JoinTree) (bounds : List ℕ) → IsQuery q → IsCertificate model q t bounds → (s : ℕ) → IsLowerBound model q s (bound_of bounds s)
bounds_are_lower_bounds model q t bounds ok cert s u l over =
    subst (λ x. bound_of bounds x ≤ cost model q u) over (bound_below model q t bounds ok cert u l)

pub certificates_convince : (model : ℕ) (q : JoinQuery) (t : JoinTree) (bounds : List ℕ) → IsQuery q → IsCertificate model q t bounds → IsLowerBound model q (full (relations q)) (cost model q t)
certificates_convince model q t bounds ok cert u l over =
    omega (arith, cert.least, bounds_are_lower_bounds model q t bounds ok cert (full (relations q)) u l over)

-- ---- the least costs are bounds

-- of two trees that cost as little as any over their sets
trees_bounded : (model : ℕ) (q : JoinQuery) (bounds : List ℕ) (x y : JoinTree) → AreLeastCosts model q bounds → Legal model (graph_of q) x → Legal model (graph_of q) y → cost model q x ≡ bound_of bounds (set_of x) → cost model q y ≡ bound_of bounds (set_of y) → Disjoint (set_of x) (set_of y) → Crossed (graph_of q) (set_of x) (set_of y) → JoinBounded model q bounds (set_of x) (set_of y)
trees_bounded model q bounds x y least lx ly ex ey d c op known =
    let legal : Legal model (graph_of q) (join op x y) = (known, lx, ly, d, c) in
    omega (arith, ex, ey, (least.1 (set_of (join op x y)) (legal_connected model (graph_of q) (join op x y) legal)).least (join op x y) legal refl)

-- the bound of s is the cost of a legal tree over it
abbrev HasLeast : ℕ → JoinQuery → List ℕ → ℕ → Type 0
HasLeast model q bounds s = (t : JoinTree) × Legal model (graph_of q) t × (set_of t ≡ s) × (cost model q t ≡ bound_of bounds s)

sets_bounded : (model : ℕ) (q : JoinQuery) (bounds : List ℕ) (a b : ℕ) → AreLeastCosts model q bounds → Connected (graph_of q) a → Connected (graph_of q) b → Disjoint a b → Crossed (graph_of q) a b → JoinBounded model q bounds a b
sets_bounded model q bounds a b least ca cb = at_trees (least.1 a ca).some (least.1 b cb).some
  where
    at_trees : HasLeast model q bounds a → HasLeast model q bounds b → Disjoint a b → Crossed (graph_of q) a b → JoinBounded model q bounds a b
    at_trees x y =
        subst (λ s. Disjoint s b → Crossed (graph_of q) s b → JoinBounded model q bounds s b) x.2
        (subst (λ s. Disjoint (set_of x.0) s → Crossed (graph_of q) (set_of x.0) s → JoinBounded model q bounds (set_of x.0) s) y.2
        (trees_bounded model q bounds x.0 y.0 least x.1 y.1 (rw x.2 x.3) (rw y.2 y.3)))

no_worse_cost : (model : ℕ) (q : JoinQuery) (t u : JoinTree) → IsNoWorse model q t u → cost model q t ≤ cost model q u
no_worse_cost model q t u h = omega (arith, h)

plan_least : (model : ℕ) (q : JoinQuery) (s : ℕ) (t u : JoinTree) → IsQuery q → Plan model q s t → Legal model (graph_of q) u → set_of u ≡ s → cost model q t ≤ cost model q u
plan_least model q s t u ok p l over =
    no_worse_cost model q t u (every_root (λ v. (w : JoinTree) → Legal model (graph_of q) w → set_of w ≡ set_of v → IsNoWorse model q v w) t (plans_are_least model q s t ok p) u l (rw (over, p.over) refl))

pub plans_are_certified : (model : ℕ) (q : JoinQuery) (t : JoinTree) (bounds : List ℕ) → IsQuery q → AreLeastCosts model q bounds → Plan model q (full (relations q)) t → IsCertificate model q t bounds
plans_are_certified model q t bounds ok least p =
    let all : ℕ = full (relations q) in
    let whole : Connected (graph_of q) all = subst (Connected (graph_of q)) p.over (legal_connected model (graph_of q) t p.legal) in
    record {
      sized = least.0;
      alone = λ r l. omega (arith, (least.1 (single r) (connected_single (graph_of q) r l)).least (leaf r) l refl);
      bounded = λ x h. (
        sets_bounded model q bounds x.a x.b least h.first h.second h.apart h.crossed,
        sets_bounded model q bounds x.b x.a least h.second h.first (λ r m n. h.apart r n m) (crossed_back (graph_of q) x.a x.b h.crossed),
      );
      legal = p.legal;
      over = p.over;
      least = omega (arith, (least.1 all whole).some.3, plan_least model q all t (least.1 all whole).some.0 ok p (least.1 all whole).some.1 (least.1 all whole).some.2);
    }

-- ---- the least costs from the best words

best_least : (model : ℕ) (q : JoinQuery) (t u : JoinTree) → IsQuery q → Legal model (graph_of q) t → HasBest model q t → cost model q t < COST_LIMIT → Legal model (graph_of q) u → set_of u ≡ set_of t → cost model q t ≤ cost model q u
best_least model q t u ok l best below m over =
    elim (cases_lt (cost model q u) COST_LIMIT) [
      | inl c ↦ best_cost model q t u ok l best m over c
      | inr c ↦ omega (arith, c, below)
    ]

pub best_words_have_least_costs : (model : ℕ) (q : JoinQuery) (s w : ℕ) → IsQuery q → Best model q s w → IsLeastCost model q s (word_cost w)
best_words_have_least_costs model q s w ok best =
    let t : JoinTree = best.some.0 in
    let over : set_of t ≡ s = best.some.2 in
    let of_tree : HasBest model q t = rw (over, best.some.3.is) best in
    let costs : cost model q t ≡ word_cost w = sym (word_reads model q t ok best.some.1 best.some.3.below) ∙ ap word_cost best.some.3.is in
    record {
      some = (t, best.some.1, over, costs);
      least = λ u l e. rw (← costs) (best_least model q t u ok best.some.1 of_tree best.some.3.below l (e ∙ sym over));
    }
