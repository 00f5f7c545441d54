use Rattle.dpe_base.specs.Sets.{Within}
use Rattle.join_graph.proofs.Neighbours.{IsGathered}
use Rattle.join_graph.proofs.graph.Graph.gathered.Given as goal

abbrev pub invariant-rest : goal.invariant-rest
invariant-rest l = record { part : Within l.rest l.fn.s; gathered : IsGathered l.self-inside.adjacent l.fn.s l.rest l.all }

abbrev pub decreases-rest : goal.decreases-rest
decreases-rest l = l.rest
