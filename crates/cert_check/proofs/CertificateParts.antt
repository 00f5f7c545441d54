-- A certificate by its parts, as they are tested.
use Rattle.std.proofs.Common.{◌≡◌, ◌↔◌, ℕ, ◌^◌, ◌<◌, Bool, IsTrue, leb, List, length}
use Rattle.std.specs.List.{slice_index}
use Rattle.std.proofs.lemmas.Bool.{leb-true, le-leb}
use Rattle.dpe_base.specs.declared.pair.Pair.{Pair}
use Rattle.dpe_base.specs.Queries.{JoinQuery, relations}
use Rattle.dpe_base.specs.Sets.{full, single}
use Rattle.join_graph.specs.Graphs.{Pairs, graph_of}
use Rattle.join_tree.specs.Trees.{JoinTree, Legal, set_of, cost}
use Rattle.cert_check.specs.Certificates.{IsCertificate, PairBounded, bound_of}
use Rattle.cert_check.specs.Steps.{IsBoundedTree}

-- of a legal tree over all relations the test of its cost decides
pub bounded_by_test : (model : ℕ) (q : JoinQuery) (t : JoinTree) (bounds : List ℕ) (known place : ℕ) → Legal model (graph_of q) t → set_of t ≡ full (relations q) → known ≡ cost model q t → place ≡ full (relations q) → IsTrue (leb known (slice_index bounds place)) ↔ IsBoundedTree model q t bounds
bounded_by_test model q t bounds known place legal over k p =
    (λ h. (legal, over, rw (← k, ← p) (leb-true known (slice_index bounds place) h)), λ h. le-leb known (slice_index bounds place) (rw (k, p) h.2))

-- the pairs are tested last
pub by_pairs : (model : ℕ) (q : JoinQuery) (t : JoinTree) (bounds : List ℕ) (passed : Bool) → length bounds ≡ 2 ^ relations q → IsBoundedTree model q t bounds → ((r : ℕ) → r < relations q → bound_of bounds (single r) ≡ 0) → (IsTrue passed ↔ ((p : Pair) → Pairs (graph_of q) p → PairBounded model q bounds p)) → IsTrue passed ↔ IsCertificate model q t bounds
by_pairs model q t bounds passed sized tree alone test = (
  λ h. record { sized = sized; alone = alone; bounded = test.0 h; legal = tree.0; over = tree.1; least = tree.2 },
  λ cert. test.1 cert.bounded,
)
