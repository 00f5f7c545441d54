use Rattle.std.proofs.Common.{◌≡◌, length}
use Rattle.connected_sets.specs.Left.{sets_left}
use Rattle.enum_dpccp.specs.Left.{dpccp_left, DpccpFits}
use Rattle.enum_dpccp.proofs.dpccp.DpCcpPairStream.next.Given as goal

abbrev pub invariant-firsts : goal.invariant-firsts
invariant-firsts g l =
    record {
      fits : DpccpFits l.self-inside.graph l.self-inside.firsts l.self-inside.seconds;
      left : l.fn.self ≡ dpccp_left l.self-inside.graph l.self-inside.firsts l.self-inside.first l.self-inside.seconds;
    }

abbrev pub decreases-firsts : goal.decreases-firsts
decreases-firsts g l = length (sets_left l.self-inside.graph l.self-inside.firsts)
