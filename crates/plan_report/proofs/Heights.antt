-- How high a legal tree is.
use Rattle.std.proofs.Common.{◌≢◌, ℕ, ◌+◌, ◌≤◌, ◌<◌, arith}
use Rattle.dpe_base.specs.declared.TheConstants.{N_MAX}
use Rattle.dpe_base.specs.Queries.{JoinQuery, relations, IsQuery}
use Rattle.dpe_base.specs.Sets.{full, size}
use Rattle.dpe_base.proofs.SetLaws.{sets, member-same}
use Rattle.dpe_base.proofs.SizeLaws.{size-union, size-single, size_full}
use Rattle.join_graph.specs.Graphs.{JoinGraph, graph_of}
use Rattle.join_tree.specs.Trees.{JoinTree, leaf, join, set_of, Legal}
use Rattle.join_tree.proofs.TreeLaws.{legal_connected}
use Rattle.plan_report.specs.Texts.{height}

-- a tree is less high than it has relations
legal_height : (kind : ℕ) (g : JoinGraph) (t : JoinTree) → Legal kind g t → height t + 1 ≤ size (set_of t)
legal_height kind g (leaf r) l = omega (arith, size-single r)
legal_height kind g (join op left right) l =
    omega (arith, legal_height kind g left l.1, legal_height kind g right l.2, size-union (set_of left) (set_of right) l.3)

pub legal_height_small : (kind : ℕ) (q : JoinQuery) (t : JoinTree) → IsQuery q → Legal kind (graph_of q) t → height t < N_MAX
legal_height_small kind q t ok l =
    omega (arith, legal_height kind (graph_of q) t l, size_full (set_of t) (relations q) (legal_connected kind (graph_of q) t l).within, ok.few)

pub full_some : {n : ℕ} → 0 < n → full n ≢ 0
full_some some e = grind (arith, sets, member-same e 0)
