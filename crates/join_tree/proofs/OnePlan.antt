-- A set has at most one plan, since a word names the root's operator and left set.
use Rattle.std.proofs.Common.{◌≡◌, ℕ, ◌+◌, ◌*◌, ◌<◌, arith, sym, ◌∙◌, ap}
use Rattle.dpe_base.specs.declared.TheConstants.{COST_LIMIT, SPAN}
use Rattle.dpe_base.specs.Queries.{JoinQuery, IsQuery}
use Rattle.dpe_base.specs.Sets.{Disjoint, union, single}
use Rattle.dpe_base.proofs.SetLaws.{sets, same_set, member-same}
use Rattle.join_graph.specs.Graphs.{graph_of}
use Rattle.cost_model.proofs.CostLaws.{operators_few}
use Rattle.join_tree.specs.Trees.{JoinTree, leaf, join, set_of, cost, root_word, Legal, Best, Plan, EverySubtree}
use Rattle.join_tree.proofs.BestLaws.{legal_small, join_word, least_split_below, same_best}

-- words of two trees over one set that are equal have one root
pub same_root : (model : ℕ) (q : JoinQuery) (op op' : ℕ) (l r l' r' : JoinTree) → IsQuery q → Legal model (graph_of q) (join op l r) → Legal model (graph_of q) (join op' l' r') → cost model q (join op l r) < COST_LIMIT → cost model q (join op' l' r') < COST_LIMIT → root_word model q (join op l r) ≡ root_word model q (join op' l' r') → (op ≡ op') × (set_of l ≡ set_of l')
same_root model q op op' l r l' r' ok m n a b e =
    digits_same (cost model q (join op l r)) op (set_of l) (cost model q (join op' l' r')) op' (set_of l') (operators_few model op m.0) (operators_few model op' n.0) (legal_small model q l ok m.1) (legal_small model q l' ok n.1) (sym (join_word model q op l r a) ∙ e ∙ join_word model q op' l' r' b)
  where
    digits_same : (c o s c' o' s' : ℕ) → o < 3 → o' < 3 → s < SPAN → s' < SPAN → c * (4 * SPAN) + o * SPAN + s ≡ c' * (4 * SPAN) + o' * SPAN + s' → (o ≡ o') × (s ≡ s')
    digits_same c o s c' o' s' p p' l l' e = (omega arith, omega arith)

pub single_same : (r k : ℕ) → single r ≡ single k → r ≡ k
single_same r k e = grind (arith, sets, member-same e r)

pub other_side : (a x y : ℕ) → Disjoint a x → Disjoint a y → union a x ≡ union a y → x ≡ y
other_side a x y d f e = same_set _ _ (λ r. grind (arith, sets, member-same e r))

-- a leaf and a join have no word in common
apart : (model : ℕ) (q : JoinQuery) (r op : ℕ) (x y : JoinTree) → IsQuery q → Legal model (graph_of q) (leaf r) → Legal model (graph_of q) (join op x y) → cost model q (join op x y) < COST_LIMIT → root_word model q (leaf r) ≡ root_word model q (join op x y) → ⊥
apart model q r op x y ok l m c e =
    omega (arith, legal_small model q (leaf r) ok l, legal_small model q x ok m.1, operators_few model op m.0, join_word model q op x y c, e)

pub one_plan : (model : ℕ) (q : JoinQuery) (t u : JoinTree) → IsQuery q → Legal model (graph_of q) t → Legal model (graph_of q) u → set_of t ≡ set_of u → EverySubtree (λ x. Best model q (set_of x) (root_word model q x)) t → EverySubtree (λ x. Best model q (set_of x) (root_word model q x)) u → t ≡ u
one_plan model q (leaf r) (leaf k) ok l m e a b = ap leaf (single_same r k e)
one_plan model q (leaf r) (join op x y) ok l m e a b =
    absurd (apart model q r op x y ok l m (least_split_below model q (join op x y) ok m b.0) (same_best model q (leaf r) (join op x y) e a b.0))
one_plan model q (join op x y) (leaf k) ok l m e a b =
    absurd (apart model q k op x y ok m l (least_split_below model q (join op x y) ok l a.0) (sym (same_best model q (join op x y) (leaf k) e a.0 b)))
one_plan model q (join op x y) (join op' x' y') ok l m e a b =
    let root : (op ≡ op') × (set_of x ≡ set_of x') =
    same_root model q op op' x y x' y' ok l m (least_split_below model q (join op x y) ok l a.0) (least_split_below model q (join op' x' y') ok m b.0) (same_best model q (join op x y) (join op' x' y') e a.0 b.0) in
    let sides : set_of y ≡ set_of y' =
    other_side (set_of x) (set_of y) (set_of y') l.3 (rw root.1 m.3) (e ∙ ap (λ s. union s (set_of y')) (sym root.1)) in
    let left : x ≡ x' = one_plan model q x x' ok l.1 m.1 root.1 a.1 b.1 in
    let right : y ≡ y' = one_plan model q y y' ok l.2 m.2 sides a.2 b.2 in
    cc

-- a set has at most one plan
pub plan_same : (model : ℕ) (q : JoinQuery) (s : ℕ) (t u : JoinTree) → IsQuery q → Plan model q s t → Plan model q s u → t ≡ u
plan_same model q s t u ok a b = one_plan model q t u ok a.legal b.legal (a.over ∙ sym b.over) a.best b.best
