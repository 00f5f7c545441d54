use Rattle.std.proofs.Common.{◌≡◌, take}
use Rattle.join_graph.specs.Graphs.{adjacent_to}
use Rattle.join_graph.proofs.graph.adjacent_to.Given as goal

abbrev pub invariant-loop-p : goal.invariant-loop-p
invariant-loop-p l = l.all ≡ adjacent_to (take l.p-index l.preds) l.r
