-- The least words of a class, and its plans.
use Rattle.std.proofs.Common.{◌≡◌, ℕ, ◌≤◌, ◌<◌, inl, inr, arith, refl, sym, ◌∙◌, ap, subst}
use Rattle.dpe_base.specs.declared.TheConstants.{COST_LIMIT, EMPTY}
use Rattle.dpe_base.specs.Queries.{JoinQuery, IsQuery}
use Rattle.dpe_base.specs.Sets.{union, single, size}
use Rattle.dpe_base.proofs.SizeLaws.{size-single}
use Rattle.join_graph.specs.Graphs.{JoinGraph, Connected, graph_of}
use Rattle.card_scaled.specs.Cards.{rows}
use Rattle.cost_model.specs.Costs.{join_cost}
use Rattle.cost_model.specs.Words.{word}
use Rattle.cost_model.proofs.CostLaws.{operators_few}
use Rattle.cost_model.proofs.WordLaws.{word_mono, word_not_empty}
use Rattle.join_tree.specs.Trees.{JoinTree, leaf, join, set_of, cost, root_word, Legal, EverySubtree}
use Rattle.join_tree.proofs.TreeLaws.{legal_connected, join_size}
use Rattle.join_tree.proofs.BestLaws.{legal_small, legal_word, word_reads}
use Rattle.join_tree.proofs.OnePlan.{same_root, single_same, other_side}
use Rattle.join_tree.proofs.PlanLaws.{every_root}
use Rattle.plan_space.specs.declared.class.Class.{Class}
use Rattle.plan_space.specs.declared.class.Class.TheVariants.{Narrow, ZigZag, LeftDeep}
use Rattle.plan_space.specs.Classes.{IsLeaf, SidesIn, InClass, LeastIn, PlanIn}

-- ---- leaves

-- a leaf has one relation, and a legal tree over one is a leaf
pub leaf_one : (t : JoinTree) → IsLeaf t → size (set_of t) ≤ 1
leaf_one (leaf r) l = omega (arith, size-single r)
leaf_one (join op a b) l = absurd l

pub one_leaf : (model : ℕ) (g : JoinGraph) (t : JoinTree) → Legal model g t → size (set_of t) ≤ 1 → IsLeaf t
one_leaf model g (leaf r) l one = tt
one_leaf model g (join op a b) l one = absurd (omega (arith, join_size model g op a b l, one))

leaf_again : (model : ℕ) (g : JoinGraph) (t u : JoinTree) → Legal model g u → set_of u ≡ set_of t → IsLeaf t → IsLeaf u
leaf_again model g t u m e l = one_leaf model g u m (omega (arith, ap size e, leaf_one t l))

-- the class of a join depends on the sets of its sides alone
sides_again : (c : Class) (model : ℕ) (g : JoinGraph) (l r x y : JoinTree) → Legal model g x → Legal model g y → set_of x ≡ set_of l → set_of y ≡ set_of r → SidesIn c l r → SidesIn c x y
sides_again Narrow model g l r x y m n e f h = elim h [ inl a ↦ inl (omega (arith, a, ap size e)) | inr a ↦ inr (omega (arith, a, ap size f)) ]
sides_again ZigZag model g l r x y m n e f h =
    elim h [ inl a ↦ inl (leaf_again model g l x m e a) | inr a ↦ inr (leaf_again model g r y n f a) ]
sides_again LeftDeep model g l r x y m n e f h = leaf_again model g r y n f h

module _ (c : Class) (model : ℕ) (q : JoinQuery) (ok : IsQuery q) where
  pub left_in : (op : ℕ) (l r : JoinTree) → InClass c model (graph_of q) (join op l r) → InClass c model (graph_of q) l
  left_in op l r i = record { legal = i.legal.1; joins = i.joins.1 }

  pub right_in : (op : ℕ) (l r : JoinTree) → InClass c model (graph_of q) (join op l r) → InClass c model (graph_of q) r
  right_in op l r i = record { legal = i.legal.2; joins = i.joins.2 }

  -- ---- least words

  pub least_same : (s v w : ℕ) → LeastIn c model q s v → LeastIn c model q s w → v ≡ w
  least_same s v w a b = omega (arith, a.least b.some.0 w b.some.1 b.some.2 b.some.3, b.least a.some.0 v a.some.1 a.some.2 a.some.3)

  pub least_not_empty : (s w : ℕ) → LeastIn c model q s w → w < EMPTY
  least_not_empty s w b = legal_word model q b.some.0 w ok b.some.1.legal b.some.3

  pub least_connected : (s w : ℕ) → LeastIn c model q s w → Connected (graph_of q) s
  least_connected s w b = subst (Connected (graph_of q)) b.some.2 (legal_connected model (graph_of q) b.some.0 b.some.1.legal)

  abbrev pub HasLeast : JoinTree → Type 0
  HasLeast t = LeastIn c model q (set_of t) (root_word model q t)

  -- a tree with the least word of its set has a word
  pub least_below : (t : JoinTree) → Legal model (graph_of q) t → HasLeast t → cost model q t < COST_LIMIT
  least_below (leaf r) l b = omega arith
  least_below (join op l r) m b =
      word_not_empty (cost model q (join op l r)) op (set_of l) (operators_few model op m.0) (legal_small model q l ok m.1) (λ e. omega (arith, e, least_not_empty (set_of (join op l r)) (root_word model q (join op l r)) b))

  same_least : (t u : JoinTree) → set_of t ≡ set_of u → HasLeast t → HasLeast u → root_word model q t ≡ root_word model q u
  same_least t u e a b = least_same (set_of u) (root_word model q t) (root_word model q u) (subst (λ s. LeastIn c model q s (root_word model q t)) e a) b

  -- it costs no more than any tree of the class over the set with a word
  least_cost : (t u : JoinTree) → Legal model (graph_of q) t → HasLeast t → InClass c model (graph_of q) u → set_of u ≡ set_of t → cost model q u < COST_LIMIT → cost model q t ≤ cost model q u
  least_cost t u l b m e below =
      omega (
        arith,
        b.least u (root_word model q u) m e (record { below = below; is = refl }),
        word_reads model q t ok l (least_below t l b),
        word_reads model q u ok m.legal below,
      )

  -- ---- plans

  same_operator : (op a b x y : ℕ) → a ≡ x → b ≡ y → join_cost model op (rows q a) (rows q b) (rows q (union a b)) ≡ join_cost model op (rows q x) (rows q y) (rows q (union x y))
  same_operator op a b x y e f =
      ap (λ s. join_cost model op (rows q s) (rows q b) (rows q (union s b))) e ∙ ap (λ s. join_cost model op (rows q x) (rows q s) (rows q (union x s))) f

  -- the root of a tree with the least word over the plans of its sides is a plan
  pub plan_join : (op : ℕ) (l r x y : JoinTree) → InClass c model (graph_of q) (join op l r) → HasLeast (join op l r) → PlanIn c model q (set_of l) x → PlanIn c model q (set_of r) y → PlanIn c model q (set_of (join op l r)) (join op x y)
  plan_join op l r x y i b px py =
      let m : Legal model (graph_of q) (join op l r) = i.legal in
      let below : cost model q (join op l r) < COST_LIMIT = least_below (join op l r) m b in
      let left : cost model q x ≤ cost model q l =
      least_cost x l px.in_class.legal (every_root HasLeast x px.best) (left_in op l r i) (sym px.over) (omega (arith, below)) in
      let right : cost model q y ≤ cost model q r =
      least_cost y r py.in_class.legal (every_root HasLeast y py.best) (right_in op l r i) (sym py.over) (omega (arith, below)) in
      let less : cost model q (join op x y) ≤ cost model q (join op l r) =
      omega (arith, left, right, same_operator op (set_of x) (set_of y) (set_of l) (set_of r) px.over py.over) in
      let over : union (set_of x) (set_of y) ≡ union (set_of l) (set_of r) = ap (λ s. union s (set_of y)) px.over ∙ ap (union (set_of l)) py.over in
      let legal : Legal model (graph_of q) (join op x y) = (m.0, px.in_class.legal, py.in_class.legal, rw (px.over, py.over) m.3, rw (px.over, py.over) m.4) in
      let inside : InClass c model (graph_of q) (join op x y) =
      record { legal = legal; joins = (sides_again c model (graph_of q) l r x y px.in_class.legal py.in_class.legal px.over py.over i.joins.0, px.in_class.joins, py.in_class.joins) } in
      let at_most : root_word model q (join op x y) ≤ root_word model q (join op l r) =
      subst (λ s. root_word model q (join op x y) ≤ word (cost model q (join op l r)) op s) px.over
      (word_mono (cost model q (join op x y)) (cost model q (join op l r)) op (set_of x) (omega (arith, operators_few model op m.0)) (legal_small model q x ok px.in_class.legal) less) in
      let at_least : root_word model q (join op l r) ≤ root_word model q (join op x y) =
      b.least (join op x y) (root_word model q (join op x y)) inside over (record { below = omega (arith, less, below); is = refl }) in
      let same : root_word model q (join op l r) ≡ root_word model q (join op x y) = omega (arith, at_most, at_least) in
      let best : LeastIn c model q (union (set_of x) (set_of y)) (root_word model q (join op x y)) =
      subst (λ s. LeastIn c model q s (root_word model q (join op x y))) (sym over) (subst (LeastIn c model q (union (set_of l) (set_of r))) same b) in
      record { in_class = inside; over = over; best = (best, px.best, py.best) }

  -- ---- at most one plan

  -- a leaf and a join are not over one set
  apart : (r op : ℕ) (x y : JoinTree) → Legal model (graph_of q) (join op x y) → single r ≡ set_of (join op x y) → ⊥
  apart r op x y m e = omega (arith, join_size model (graph_of q) op x y m, ap size e, size-single r)

  one_plan : (t u : JoinTree) → Legal model (graph_of q) t → Legal model (graph_of q) u → set_of t ≡ set_of u → EverySubtree HasLeast t → EverySubtree HasLeast u → t ≡ u
  one_plan (leaf r) (leaf k) l m e a b = ap leaf (single_same r k e)
  one_plan (leaf r) (join op x y) l m e a b = absurd (apart r op x y m e)
  one_plan (join op x y) (leaf k) l m e a b = absurd (apart k op x y l (sym e))
  one_plan (join op x y) (join op' x' y') l m e a b =
      let root : (op ≡ op') × (set_of x ≡ set_of x') =
      same_root model q op op' x y x' y' ok l m (least_below (join op x y) l a.0) (least_below (join op' x' y') m b.0) (same_least (join op x y) (join op' x' y') e a.0 b.0) in
      let sides : set_of y ≡ set_of y' =
      other_side (set_of x) (set_of y) (set_of y') l.3 (rw root.1 m.3) (e ∙ ap (λ s. union s (set_of y')) (sym root.1)) in
      let left : x ≡ x' = one_plan x x' l.1 m.1 root.1 a.1 b.1 in
      let right : y ≡ y' = one_plan y y' l.2 m.2 sides a.2 b.2 in
      cc

  pub plan_same : (s : ℕ) (t u : JoinTree) → PlanIn c model q s t → PlanIn c model q s u → t ≡ u
  plan_same s t u a b = one_plan t u a.in_class.legal b.in_class.legal (a.over ∙ sym b.over) a.best b.best
