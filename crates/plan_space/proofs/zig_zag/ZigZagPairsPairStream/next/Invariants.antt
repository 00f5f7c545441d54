use Rattle.std.proofs.Common.{◌≡◌, ◌+◌, ◌-◌, ◌*◌, ◌≤◌}
use Rattle.dpe_base.specs.Sets.{full}
use Rattle.join_graph.specs.Graphs.{IsGraph}
use Rattle.plan_space.specs.ZigZagLeft.{zig_zag_left}
use Rattle.plan_space.proofs.zig_zag.ZigZagPairsPairStream.next.Given as goal

abbrev pub invariant-scan : goal.invariant-scan
invariant-scan g l =
    record {
      valid : IsGraph l.self-inside.graph;
      below : l.self-inside.set ≤ full l.self-inside.graph.n;
      few : l.self-inside.next ≤ l.self-inside.graph.n;
      left : l.fn.self ≡ zig_zag_left l.self-inside.graph l.self-inside.set l.self-inside.next;
    }

abbrev pub decreases-scan : goal.decreases-scan
decreases-scan g l = (full l.self-inside.graph.n - l.self-inside.set) * 256 + (l.self-inside.graph.n - l.self-inside.next)
