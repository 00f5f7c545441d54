use Rattle.std.proofs.Common.{◌≡◌, ◌++◌, length}
use Rattle.connected_sets.specs.Growth.{calls_after, calling_left, growth_left, CallFits, CallsFit}
use Rattle.connected_sets.proofs.growth.Growth.move_on.Given as goal

abbrev pub invariant-calls : goal.invariant-calls
invariant-calls l =
    record {
      calling : CallsFit l.graph 0 l.self.calling.items;
      call : CallFits l.graph (length l.self.calling.items) l.call;
      left : growth_left l.graph l.fn.self ≡ calls_after l.graph l.call l.call.last ++ calling_left l.graph l.self.calling.items;
    }

abbrev pub decreases-calls : goal.decreases-calls
decreases-calls l = length l.self.calling.items
