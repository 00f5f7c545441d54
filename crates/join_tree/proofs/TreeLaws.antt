-- The sets of trees, and that the trees of all pairs are the legal trees.
use Rattle.std.proofs.Common.{◌≡◌, ℕ, ◌≤◌, ◌<◌, arith, inl, inr, List, Contains}
use Rattle.std.proofs.lemmas.Bool.{cases_eq}
use Rattle.dpe_base.specs.declared.TheConstants.{N_MAX, SPAN}
use Rattle.dpe_base.specs.declared.pair.Pair.{Pair}
use Rattle.dpe_base.specs.Queries.{JoinQuery, relations, IsQuery}
use Rattle.dpe_base.specs.Sets.{Within, union, single, full, size}
use Rattle.dpe_base.proofs.SetLaws.{sets, member-same}
use Rattle.dpe_base.proofs.SizeLaws.{size_none, size-union, within_span}
use Rattle.join_graph.specs.Graphs.{JoinGraph, Connected, Pairs, pair_of, graph_of}
use Rattle.join_graph.proofs.GraphLaws.{crossed_back, connected_union, connected_single, pair_either, grown_pair}
use Rattle.join_graph.specs.PairLists.{SideBuilt}
use Rattle.join_graph.specs.PairLists.{HasAllPairs}
use Rattle.join_tree.specs.Trees.{JoinTree, leaf, join, set_of, Legal, LeavesBelow, Trees, Builds}

-- ---- sets

-- a connected set has a relation
pub connected_size_some : (g : JoinGraph) (s : ℕ) → Connected g s → 1 ≤ size s
connected_size_some g s c = elim (cases_eq (size s) 0) [ inl e ↦ absurd (c.some (size_none s e)) | inr ne ↦ omega arith ]

pub connected_single_known : (g : JoinGraph) (s r : ℕ) → Connected g s → s ≡ single r → r < g.n
connected_single_known g s r c e = grind (arith, sets, c.within r, member-same e r)

pub connected_small : (q : JoinQuery) → IsQuery q → (s : ℕ) → Connected (graph_of q) s → s < SPAN
connected_small q ok s c = within_span s (relations q) c.within ok.few

-- ---- leaves

pub leaves_within : (n : ℕ) (t : JoinTree) → LeavesBelow n t → Within (set_of t) (full n)
leaves_within n (leaf k) l r h = grind (arith, sets)
leaves_within n (join op left right) l r h = grind (arith, sets, leaves_within n left l.0 r, leaves_within n right l.1 r)

pub leaves_small : (n : ℕ) (t : JoinTree) → n ≤ N_MAX → LeavesBelow n t → set_of t < SPAN
leaves_small n t few l = within_span (set_of t) n (leaves_within n t l) few

pub legal_leaves : (model n : ℕ) (g : JoinGraph) (t : JoinTree) → g.n ≤ n → Legal model g t → LeavesBelow n t
legal_leaves model n g (leaf r) le l = omega (arith, l)
legal_leaves model n g (join op left right) le l = (legal_leaves model n g left le l.1, legal_leaves model n g right le l.2)

pub trees_leaves : (model : ℕ) (q : JoinQuery) (pairs : List Pair) (t : JoinTree) → Trees model q pairs t → LeavesBelow (relations q) t
trees_leaves model q pairs (leaf r) m = m
trees_leaves model q pairs (join op left right) m = (trees_leaves model q pairs left m.1, trees_leaves model q pairs right m.2)

-- ---- the legal trees

-- the leaves of a legal tree are a connected set
pub legal_connected : (model : ℕ) (g : JoinGraph) (t : JoinTree) → Legal model g t → Connected g (set_of t)
legal_connected model g (leaf r) l = connected_single g r l
legal_connected model g (join op left right) l =
    connected_union g (set_of left) (set_of right) (legal_connected model g left l.1) (legal_connected model g right l.2) l.4

-- a join has two relations or more
pub join_size : (model : ℕ) (g : JoinGraph) (op : ℕ) (l r : JoinTree) → Legal model g (join op l r) → 2 ≤ size (union (set_of l) (set_of r))
join_size model g op l r m =
    omega (
      arith,
      size-union (set_of l) (set_of r) m.3,
      connected_size_some g (set_of l) (legal_connected model g l m.1),
      connected_size_some g (set_of r) (legal_connected model g r m.2),
    )

pub legal_made : (model : ℕ) (q : JoinQuery) (pairs : List Pair) → IsQuery q → HasAllPairs (graph_of q) pairs → (t : JoinTree) → Legal model (graph_of q) t → Trees model q pairs t
legal_made model q pairs ok all (leaf r) l = l
legal_made model q pairs ok all (join op left right) l = (
  l.0,
  legal_made model q pairs ok all left l.1,
  legal_made model q pairs ok all right l.2,
  elim (pair_either (graph_of q) (set_of left) (set_of right) ok.few (legal_connected model (graph_of q) left l.1) (legal_connected model (graph_of q) right l.2) l.3 l.4) [
    | inl p ↦ inl ((all (pair_of (set_of left) (set_of right))).1 p)
    | inr p ↦ inr ((all (pair_of (set_of right) (set_of left))).1 p)
  ],
)

pub made_legal : (model : ℕ) (q : JoinQuery) (pairs : List Pair) → ((p : Pair) → Contains pairs p → Pairs (graph_of q) p) → (t : JoinTree) → Trees model q pairs t → Legal model (graph_of q) t
made_legal model q pairs all (leaf r) l = l
made_legal model q pairs all (join op left right) l = (
  l.0,
  made_legal model q pairs all left l.1,
  made_legal model q pairs all right l.2,
  elim l.3 [ inl c ↦ (all _ c).apart | inr c ↦ λ r x y. (all _ c).apart r y x ],
  elim l.3 [ inl c ↦ (all _ c).crossed | inr c ↦ crossed_back (graph_of q) (set_of right) (set_of left) (all _ c).crossed ],
)

-- a connected set of two relations or more is the union of a pair
pub connected_built : (q : JoinQuery) (pairs : List Pair) → IsQuery q → HasAllPairs (graph_of q) pairs → (s : ℕ) → Connected (graph_of q) s → SideBuilt pairs s
connected_built q pairs ok all s c many =
    let p : (p : Pair) × Pairs (graph_of q) p × (union p.a p.b ≡ s) = grown_pair (graph_of q) s ok.few c many in
    (p.0, (all p.0).1 p.1, p.2)

-- so such a list builds
pub all_pairs_build : (q : JoinQuery) (pairs : List Pair) → IsQuery q → HasAllPairs (graph_of q) pairs → Builds (graph_of q) pairs
all_pairs_build q pairs ok all =
    record {
      within = λ p c. (all p).0 c;
      sides = λ p c. (connected_built q pairs ok all p.a ((all p).0 c).first, connected_built q pairs ok all p.b ((all p).0 c).second);
    }
