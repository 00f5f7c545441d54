use Rattle.std.proofs.Common.{◌≡◌, ℕ, ◌<◌, length, get_or}
use Rattle.dpe_base.specs.declared.TheConstants.{N_MAX}
use Rattle.join_graph.specs.Graphs.{adjacent_to}
use Rattle.join_graph.proofs.graph.adjacency.Given as goal

abbrev pub invariant-loop-r : goal.invariant-loop-r
invariant-loop-r l =
    (length l.adjacent ≡ N_MAX) × ((k : ℕ) → k < l.r → get_or l.adjacent k 0 ≡ adjacent_to l.preds k)
