-- Each class is within the next wider one.
use Rattle.std.proofs.Common.{◌≡◌, ℕ, ◌+◌, ◌≤◌, inl, inr, arith, ap}
use Rattle.dpe_base.specs.Queries.{JoinQuery}
use Rattle.dpe_base.specs.Sets.{union, size}
use Rattle.dpe_base.proofs.SizeLaws.{size-union}
use Rattle.join_graph.specs.Graphs.{JoinGraph, graph_of}
use Rattle.join_tree.specs.Trees.{JoinTree, leaf, join, set_of, Legal, Best}
use Rattle.join_tree.proofs.TreeLaws.{legal_connected, connected_size_some}
use Rattle.plan_space.specs.declared.class.Class.{Class}
use Rattle.plan_space.specs.declared.class.Class.TheVariants.{Narrow, ZigZag, LeftDeep}
use Rattle.plan_space.specs.Classes.{JoinsIn, InClass, LeastIn}
use Rattle.plan_space.proofs.ClassLaws.{leaf_one, one_leaf}

left_deep_joins : (t : JoinTree) → JoinsIn LeftDeep t → JoinsIn ZigZag t
left_deep_joins (leaf r) j = tt
left_deep_joins (join op l r) j = (inr j.0, left_deep_joins l j.1, left_deep_joins r j.2)

zig_zag_joins : (t : JoinTree) → JoinsIn ZigZag t → JoinsIn Narrow t
zig_zag_joins (leaf r) j = tt
zig_zag_joins (join op l r) j = (
  elim j.0 [ inl x ↦ inl (omega (arith, leaf_one l x)) | inr x ↦ inr (omega (arith, leaf_one r x)) ],
  zig_zag_joins l j.1,
  zig_zag_joins r j.2,
)

pub classes_are_nested : (model : ℕ) (g : JoinGraph) (t : JoinTree)
    → (InClass LeftDeep model g t → InClass ZigZag model g t) × (InClass ZigZag model g t → InClass Narrow model g t)
classes_are_nested model g t = (
  λ i. record { legal = i.legal; joins = left_deep_joins t i.joins },
  λ i. record { legal = i.legal; joins = zig_zag_joins t i.joins },
)

pub narrower_classes_cost_no_less : (model : ℕ) (q : JoinQuery) (s best narrow zig_zag left_deep : ℕ)
    → Best model q s best → LeastIn Narrow model q s narrow
    → LeastIn ZigZag model q s zig_zag → LeastIn LeftDeep model q s left_deep
    → (best ≤ narrow) × (narrow ≤ zig_zag) × (zig_zag ≤ left_deep)
narrower_classes_cost_no_less model q s best narrow zig_zag left_deep b n z l = (
  b.least n.some.0 narrow n.some.1.legal n.some.2 n.some.3,
  n.least z.some.0 zig_zag ((classes_are_nested model _ z.some.0).1 z.some.1) z.some.2 z.some.3,
  z.least l.some.0 left_deep ((classes_are_nested model _ l.some.0).0 l.some.1) l.some.2 l.some.3,
)

-- ---- sets of two relations or fewer

small_joins : (model : ℕ) (g : JoinGraph) (t : JoinTree) → Legal model g t → size (set_of t) ≤ 2 → JoinsIn LeftDeep t
small_joins model g (leaf r) m few = tt
small_joins model g (join op l r) m few =
    let left : 1 ≤ size (set_of l) = connected_size_some g (set_of l) (legal_connected model g l m.1) in
    let right : 1 ≤ size (set_of r) = connected_size_some g (set_of r) (legal_connected model g r m.2) in
    let sum : size (union (set_of l) (set_of r)) ≡ size (set_of l) + size (set_of r) = size-union (set_of l) (set_of r) m.3 in (
      one_leaf model g r m.2 (omega (arith, left, sum, few)),
      small_joins model g l m.1 (omega (arith, right, sum, few)),
      small_joins model g r m.2 (omega (arith, left, sum, few)),
    )

in_each : (c : Class) (model : ℕ) (g : JoinGraph) (t : JoinTree) → InClass LeftDeep model g t → InClass c model g t
in_each Narrow model g t i = (classes_are_nested model g t).1 ((classes_are_nested model g t).0 i)
in_each ZigZag model g t i = (classes_are_nested model g t).0 i
in_each LeftDeep model g t i = i

-- over them each class has the same trees, and so the same least words
pub small_least : (c : Class) (model : ℕ) (q : JoinQuery) (s w : ℕ) → size s ≤ 2 → LeastIn LeftDeep model q s w → LeastIn c model q s w
small_least c model q s w few least =
    record {
      some = (least.some.0, in_each c model (graph_of q) least.some.0 least.some.1, least.some.2, least.some.3);
      least = λ t v i over has. least.least t v (record { legal = i.legal; joins = small_joins model (graph_of q) t i.legal (omega (arith, few, ap size over)) }) over has;
    }
