use Rattle.std.proofs.Common.{◌≡◌, ◌+◌, ◌-◌, ◌*◌, ◌^◌, ◌≤◌}
use Rattle.dpe_base.specs.Sets.{Within, full}
use Rattle.join_graph.specs.Graphs.{IsGraph}
use Rattle.pair_stream.specs.DpsubLeft.{dpsub_left}
use Rattle.pair_stream.proofs.dpsub.DpSubPairStream.next.Given as goal

abbrev pub invariant-scan : goal.invariant-scan
invariant-scan g l =
    record {
      valid : IsGraph l.self-inside.graph;
      part : Within l.self-inside.first l.self-inside.set;
      below : l.self-inside.set ≤ full l.self-inside.graph.n;
      left : l.fn.self ≡ dpsub_left l.self-inside.graph l.self-inside.set l.self-inside.first;
    }

abbrev pub decreases-scan : goal.decreases-scan
decreases-scan g l = (full l.self-inside.graph.n - l.self-inside.set) * 2 ^ 32 + (l.self-inside.set - l.self-inside.first)
