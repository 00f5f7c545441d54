-- Small graphs, on which the lists of pairs are computed.
use Rattle.std.proofs.Common.{ℕ, List}
use Rattle.dpe_base.specs.declared.query.Pred.{Pred}
use Rattle.join_graph.specs.Graphs.{JoinGraph, adjacency}

unfoldable pub edge : ℕ → ℕ → Pred
edge a b = record { low = a; high = b; num = 1; den = 1 }

unfoldable pub graph : ℕ → List Pred → JoinGraph
graph n preds = record { n = n; adjacent = adjacency preds }
