-- A measured tree has the numbers of its root, and the shape of the tree that was measured.
use Rattle.std.proofs.Common.{◌≡◌, ℕ, refl, subst}
use Rattle.dpe_base.specs.Queries.{JoinQuery}
use Rattle.join_graph.specs.Graphs.{JoinGraph, Connected}
use Rattle.join_tree.specs.Trees.{JoinTree, leaf, join, set_of, Legal}
use Rattle.join_tree.proofs.TreeLaws.{legal_connected}
use Rattle.plan_report.specs.Measures.{MeasuredTree, measured, own_numbers, root_numbers, shape}

root_of_measured : (kind : ℕ) (q : JoinQuery) (t : JoinTree) → root_numbers (measured kind q t) ≡ own_numbers kind q t
root_of_measured kind q (leaf r) = refl
root_of_measured kind q (join op left right) = refl

pub root_measured : (kind : ℕ) (q : JoinQuery) (t : JoinTree) (m : MeasuredTree) → m ≡ measured kind q t → root_numbers m ≡ own_numbers kind q t
root_measured kind q t m is = rw is (root_of_measured kind q t)

shape_of_measured : (kind : ℕ) (q : JoinQuery) (t : JoinTree) → shape (measured kind q t) ≡ t
shape_of_measured kind q (leaf r) = refl
shape_of_measured kind q (join op left right) = rw (shape_of_measured kind q left, shape_of_measured kind q right) refl

pub shape_measured : (kind : ℕ) (q : JoinQuery) (t : JoinTree) (m : MeasuredTree) → m ≡ measured kind q t → shape m ≡ t
shape_measured kind q t m is = rw is (shape_of_measured kind q t)

pub sides_connected : (kind : ℕ) (g : JoinGraph) (op : ℕ) (l r t : JoinTree) → t ≡ join op l r → Legal kind g t → Connected g (set_of l) × Connected g (set_of r)
sides_connected kind g op l r t is legal = both (subst (λ (u : JoinTree). Legal kind g u) is legal)
  where
    both : Legal kind g (join op l r) → Connected g (set_of l) × Connected g (set_of r)
    both m = (legal_connected kind g l m.1, legal_connected kind g r m.2)
