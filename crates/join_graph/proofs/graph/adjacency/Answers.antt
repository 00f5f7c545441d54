use Rattle.std.proofs.Common.{arith}
use Rattle.join_graph.proofs.Neighbours.{is_adjacency}
use Rattle.join_graph.proofs.graph.adjacency.Goals as goal

pub returns : goal.returns
returns c = is_adjacency _ _ c.loop-r.invariant.0 (λ k l. c.loop-r.invariant.1 k (omega arith))
