use Rattle.std.proofs.Common.{◌≡◌, length}
use Rattle.connected_sets.specs.Left.{sets_left}
use Rattle.enum_dpccp.specs.Left.{touching_left, TouchingFits}
use Rattle.enum_dpccp.proofs.touching.DpCcpTouchingPairStream.next.Given as goal

abbrev pub invariant-firsts : goal.invariant-firsts
invariant-firsts g l =
    record {
      fits : TouchingFits l.self-inside.graph l.self-inside.relation l.self-inside.firsts l.self-inside.seconds;
      left : l.fn.self ≡ touching_left l.self-inside.graph l.self-inside.relation l.self-inside.firsts l.self-inside.first l.self-inside.seconds;
    }

abbrev pub decreases-firsts : goal.decreases-firsts
decreases-firsts g l = length (sets_left l.self-inside.graph l.self-inside.firsts)
