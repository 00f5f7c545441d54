-- Each connected set has a least word and a plan in each class, and the least words name the plan.
use Rattle.std.proofs.Common.{◌≡◌, ℕ, zero, suc, ◌+◌, ◌≤◌, ◌<◌, ◌↔◌, arith, refl, sym, subst, List}
use Rattle.dpe_base.specs.declared.pair.Pair.{Pair}
use Rattle.dpe_base.specs.Queries.{JoinQuery, IsQuery}
use Rattle.dpe_base.specs.Sets.{union}
use Rattle.dpe_base.proofs.SizeLaws.{union_add}
use Rattle.join_graph.specs.Graphs.{Connected, graph_of}
use Rattle.join_graph.specs.PairLists.{HasAllPairs}
use Rattle.join_graph.proofs.Edges.{graph_is}
use Rattle.join_tree.specs.Trees.{JoinTree, leaf, join, set_of, Legal, Least}
use Rattle.join_tree.proofs.TreeLaws.{legal_connected}
use Rattle.join_tree.proofs.Substructure.{least_exists}
use Rattle.join_tree.proofs.AllPairs.{all_pairs}
use Rattle.plan_space.specs.declared.class.Class.{Class}
use Rattle.plan_space.specs.declared.class.Class.TheVariants.{Narrow, ZigZag, LeftDeep}
use Rattle.plan_space.specs.Classes.{InClass, LeastIn, PlanIn}
use Rattle.join_tree.specs.Words.{IsNamed}
use Rattle.join_tree.proofs.PlanLaws.{every_root}
use Rattle.join_tree.proofs.NamedTrees.{tree_named}
use Rattle.plan_space.specs.LeastWords.{HasLeastWords}
use Rattle.plan_space.specs.Thin.{thin}
use Rattle.plan_space.proofs.ClassLaws.{HasLeast, least_same, least_below, least_connected, plan_join, plan_same}
use Rattle.plan_space.proofs.ThinLaws.{IsOfWidth, narrow_of_two, zig_zag_of_one, in_thin_pairs, thin_built, thin_pairs_build_their_sides, thin_least}
use Rattle.plan_space.proofs.LeftLaws.{connected_left}

-- ---- least words

thin_exists : (c : Class) (width model : ℕ) (q : JoinQuery) (s : ℕ) → IsOfWidth c width → 1 ≤ width → IsQuery q → Connected (graph_of q) s → (w : ℕ) × LeastIn c model q s w
thin_exists c width model q s of_width some ok cs =
    let list : (pairs : List Pair) × HasAllPairs (graph_of q) pairs = all_pairs q ok in
    let least : (w : ℕ) × Least model q (thin width list.0) s w =
    least_exists model q (thin width list.0) ok (thin_pairs_build_their_sides (graph_of q) width (thin width list.0) (graph_is q ok) some (in_thin_pairs (graph_of q) width list.0 list.1)) (suc s) s (omega arith) (cs, thin_built (graph_of q) width (thin width list.0) (graph_is q ok) some (in_thin_pairs (graph_of q) width list.0 list.1) s cs) in
    (least.0, (thin_least c width model q (thin width list.0) of_width ok (in_thin_pairs (graph_of q) width list.0 list.1) s least.0).0 least.1)

pub connected_least : (c : Class) (model : ℕ) (q : JoinQuery) (s : ℕ) → IsQuery q → Connected (graph_of q) s → (w : ℕ) × LeastIn c model q s w
connected_least Narrow model q s ok cs = thin_exists Narrow 2 model q s narrow_of_two (omega arith) ok cs
connected_least ZigZag model q s ok cs = thin_exists ZigZag 1 model q s zig_zag_of_one (omega arith) ok cs
connected_least LeftDeep model q s ok cs = connected_left model q s ok cs

-- ---- plans

module _ (c : Class) (model : ℕ) (q : JoinQuery) (ok : IsQuery q) where
  plan_of_tree : (t : JoinTree) → InClass c model (graph_of q) t → HasLeast c model q ok t → ((x : ℕ) → x < set_of t → Connected (graph_of q) x → (u : JoinTree) × PlanIn c model q x u) → (u : JoinTree) × PlanIn c model q (set_of t) u
  plan_of_tree (leaf r) i b below = (leaf r, record { in_class = i; over = refl; best = b })
  plan_of_tree (join op l r) i b below =
      let m : Legal model (graph_of q) (join op l r) = i.legal in
      let cl : Connected (graph_of q) (set_of l) = legal_connected model (graph_of q) l m.1 in
      let cr : Connected (graph_of q) (set_of r) = legal_connected model (graph_of q) r m.2 in
      let sum : union (set_of l) (set_of r) ≡ set_of l + set_of r = union_add (set_of l) (set_of r) m.3 in
      let x : (u : JoinTree) × PlanIn c model q (set_of l) u = below (set_of l) (omega (arith, sum, cr.some)) cl in
      let y : (u : JoinTree) × PlanIn c model q (set_of r) u = below (set_of r) (omega (arith, sum, cl.some)) cr in
      (join op x.0 y.0, plan_join c model q ok op l r x.0 y.0 i b x.1 y.1)

  plan_below : (n s : ℕ) → s < n → Connected (graph_of q) s → (t : JoinTree) × PlanIn c model q s t
  plan_below zero s l cs = absurd (omega arith)
  plan_below (suc n) s l cs =
      let b : (w : ℕ) × LeastIn c model q s w = connected_least c model q s ok cs in
      let t : JoinTree = b.1.some.0 in
      let over : set_of t ≡ s = b.1.some.2 in
      let best : HasLeast c model q ok t = rw (over, b.1.some.3.is) b.1 in
      subst (λ x. (u : JoinTree) × PlanIn c model q x u) over
      (plan_of_tree t b.1.some.1 best (λ x lt cx. plan_below n x (omega (arith, over, l)) cx))

  pub plan_exists : (s : ℕ) → Connected (graph_of q) s → (t : JoinTree) × PlanIn c model q s t
  plan_exists s cs = plan_below (suc s) s (omega arith) cs

-- the plan is the tree that the least words name
pub plan_named : (c : Class) (model : ℕ) (q : JoinQuery) (words : List ℕ) (s : ℕ) (t : JoinTree) → IsQuery q → HasLeastWords c model q words s → PlanIn c model q s t → IsNamed words s t
plan_named c model q words s t ok least p =
    record {
      over = p.over;
      named = tree_named (LeastIn c model q) (least_same c model q ok) model q words t ok p.in_class.legal
          (least_below c model q ok t p.in_class.legal (every_root (HasLeast c model q ok) t p.best))
          (subst (HasLeastWords c model q words) (sym p.over) least)
          p.best;
    }

pub connected_sets_have_one_plan_in : (c : Class) (model : ℕ) (q : JoinQuery) (s : ℕ) → IsQuery q
    → (Connected (graph_of q) s ↔ ((t : JoinTree) × PlanIn c model q s t))
    × ((t u : JoinTree) → PlanIn c model q s t → PlanIn c model q s u → t ≡ u)
connected_sets_have_one_plan_in c model q s ok = (
  (
    plan_exists c model q ok s,
    λ plan. subst (Connected (graph_of q)) plan.1.over (legal_connected model (graph_of q) plan.0 plan.1.in_class.legal),
  ),
  plan_same c model q ok s,
)

pub connected_sets_have_least_words_in : (c : Class) (model : ℕ) (q : JoinQuery) (s : ℕ) → IsQuery q
    → (Connected (graph_of q) s ↔ ((w : ℕ) × LeastIn c model q s w))
    × ((v w : ℕ) → LeastIn c model q s v → LeastIn c model q s w → v ≡ w)
connected_sets_have_least_words_in c model q s ok = (
  (connected_least c model q s ok, λ x. least_connected c model q ok s x.0 x.1),
  least_same c model q ok s,
)
