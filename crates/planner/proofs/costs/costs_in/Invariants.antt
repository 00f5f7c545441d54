use Rattle.std.proofs.Common.{◌≡◌, map, take}
use Rattle.planner.specs.Costs.{cost_in}
use Rattle.planner.proofs.costs.costs_in.Given as goal

abbrev pub invariant-words : goal.invariant-words
invariant-words l = l.costs.items ≡ map cost_in (take l.word-index l.words)
