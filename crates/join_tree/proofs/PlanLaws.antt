-- A plan from the root's best word and the plans of its sides.
use Rattle.std.proofs.Common.{◌≡◌, ℕ, zero, suc, ◌+◌, ◌≤◌, ◌<◌, arith, refl, sym, ◌∙◌, ap, subst}
use Rattle.dpe_base.specs.declared.TheConstants.{COST_LIMIT}
use Rattle.dpe_base.specs.Queries.{JoinQuery, IsQuery}
use Rattle.dpe_base.specs.Sets.{Has, Within, union}
use Rattle.dpe_base.proofs.SetLaws.{sets}
use Rattle.dpe_base.proofs.SizeLaws.{union_add}
use Rattle.join_graph.specs.Graphs.{Connected, graph_of}
use Rattle.card_scaled.specs.Cards.{rows}
use Rattle.cost_model.specs.Costs.{join_cost}
use Rattle.cost_model.specs.Words.{word}
use Rattle.cost_model.proofs.CostLaws.{operators_few}
use Rattle.cost_model.proofs.WordLaws.{word_mono}
use Rattle.join_tree.specs.Trees.{JoinTree, leaf, join, set_of, cost, root_word, Legal, Best, Plan, EverySubtree}
use Rattle.join_tree.proofs.TreeLaws.{legal_connected}
use Rattle.join_tree.proofs.BestLaws.{HasBest, legal_small, least_split_below, best_cost}

pub every_root : (P : JoinTree → Type 0) (t : JoinTree) → EverySubtree P t → P t
every_root P (leaf r) h = h
every_root P (join op l r) h = h.0

same_operator : (model : ℕ) (q : JoinQuery) (op a b x y : ℕ) → a ≡ x → b ≡ y → join_cost model op (rows q a) (rows q b) (rows q (union a b)) ≡ join_cost model op (rows q x) (rows q y) (rows q (union x y))
same_operator model q op a b x y e f =
    ap (λ s. join_cost model op (rows q s) (rows q b) (rows q (union s b))) e ∙ ap (λ s. join_cost model op (rows q x) (rows q s) (rows q (union x s))) f

-- the root of a best tree over the plans of its sides is a plan
pub plan_join : (model : ℕ) (q : JoinQuery) (op : ℕ) (l r x y : JoinTree) → IsQuery q → Legal model (graph_of q) (join op l r) → HasBest model q (join op l r) → Plan model q (set_of l) x → Plan model q (set_of r) y → Plan model q (set_of (join op l r)) (join op x y)
plan_join model q op l r x y ok m b px py =
    let below : cost model q (join op l r) < COST_LIMIT = least_split_below model q (join op l r) ok m b in
    let left : cost model q x ≤ cost model q l =
    best_cost model q x l ok px.legal (every_root (HasBest model q) x px.best) m.1 (sym px.over) (omega (arith, below)) in
    let right : cost model q y ≤ cost model q r =
    best_cost model q y r ok py.legal (every_root (HasBest model q) y py.best) m.2 (sym py.over) (omega (arith, below)) in
    let less : cost model q (join op x y) ≤ cost model q (join op l r) =
    omega (arith, left, right, same_operator model q op (set_of x) (set_of y) (set_of l) (set_of r) px.over py.over) in
    let over : union (set_of x) (set_of y) ≡ union (set_of l) (set_of r) = ap (λ s. union s (set_of y)) px.over ∙ ap (union (set_of l)) py.over in
    let legal : Legal model (graph_of q) (join op x y) = (m.0, px.legal, py.legal, rw (px.over, py.over) m.3, rw (px.over, py.over) m.4) in
    let at_most : root_word model q (join op x y) ≤ root_word model q (join op l r) =
    subst (λ s. root_word model q (join op x y) ≤ word (cost model q (join op l r)) op s) px.over
    (word_mono (cost model q (join op x y)) (cost model q (join op l r)) op (set_of x) (omega (arith, operators_few model op m.0)) (legal_small model q x ok px.legal) less) in
    let at_least : root_word model q (join op l r) ≤ root_word model q (join op x y) =
    b.least (join op x y) (root_word model q (join op x y)) legal over (record { below = omega (arith, less, below); is = refl }) in
    let same : root_word model q (join op l r) ≡ root_word model q (join op x y) = omega (arith, at_most, at_least) in
    let best : Best model q (union (set_of x) (set_of y)) (root_word model q (join op x y)) =
    subst (λ s. Best model q s (root_word model q (join op x y))) (sym over) (subst (Best model q (union (set_of l) (set_of r))) same b) in
    record { legal = legal; over = over; best = (best, px.best, py.best) }

-- a plan from a best tree, where each smaller connected set within it has a plan
plan_of_tree : (model : ℕ) (q : JoinQuery) (t : JoinTree) → IsQuery q → Legal model (graph_of q) t → HasBest model q t → ((x : ℕ) → x < set_of t → Connected (graph_of q) x → Within x (set_of t) → (u : JoinTree) × Plan model q x u) → (u : JoinTree) × Plan model q (set_of t) u
plan_of_tree model q (leaf r) ok l b below = (leaf r, record { legal = l; over = refl; best = b })
plan_of_tree model q (join op l r) ok m b below =
    let cl : Connected (graph_of q) (set_of l) = legal_connected model (graph_of q) l m.1 in
    let cr : Connected (graph_of q) (set_of r) = legal_connected model (graph_of q) r m.2 in
    let sum : union (set_of l) (set_of r) ≡ set_of l + set_of r = union_add (set_of l) (set_of r) m.3 in
    let x : (u : JoinTree) × Plan model q (set_of l) u = below (set_of l) (omega (arith, sum, cr.some)) cl (λ r. grind (arith, sets)) in
    let y : (u : JoinTree) × Plan model q (set_of r) u = below (set_of r) (omega (arith, sum, cl.some)) cr (λ r. grind (arith, sets)) in
    (join op x.0 y.0, plan_join model q op l r x.0 y.0 ok m b x.1 y.1)

-- each connected set within s has a best word
abbrev pub BestWithin : ℕ → JoinQuery → ℕ → Type 0
BestWithin model q s = (x : ℕ) → Connected (graph_of q) x → Within x s → (w : ℕ) × Best model q x w

-- then there is a plan over s
pub plan_below : (model : ℕ) (q : JoinQuery) (n s : ℕ) → IsQuery q → s < n → BestWithin model q s → Connected (graph_of q) s → (t : JoinTree) × Plan model q s t
plan_below model q zero s ok l words c = absurd (omega arith)
plan_below model q (suc n) s ok l words c =
    let b : (w : ℕ) × Best model q s w = words s c (λ r h. h) in
    let t : JoinTree = b.1.some.0 in
    let over : set_of t ≡ s = b.1.some.2 in
    let best : HasBest model q t = rw (over, b.1.some.3.is) b.1 in
    subst (λ x. (u : JoinTree) × Plan model q x u) over
    (plan_of_tree model q t ok b.1.some.1 best (λ x lt cx w. plan_below model q n x ok (omega (arith, over)) (λ y cy v. words y cy (λ r h. subst (λ z. Has z r) over (w r (v r h)))) cx))

pub plan_exists : (model : ℕ) (q : JoinQuery) (s : ℕ) → IsQuery q → BestWithin model q s → Connected (graph_of q) s → (t : JoinTree) × Plan model q s t
plan_exists model q s ok words c = plan_below model q (suc s) s ok (omega arith) words c
