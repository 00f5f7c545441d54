use Rattle.std.proofs.Common.{◌≡◌, ◌-◌}
use Rattle.workload_gen.specs.Draws.{draw_each, query}
use Rattle.workload_gen.proofs.Lists.{behind}
use Rattle.workload_gen.proofs.draws.queries.Given as goal

abbrev pub invariant-queries : goal.invariant-queries
invariant-queries l = behind l.queries.items (draw_each (λ j. query) l.counter (8 - l.counter) l.rng) ≡ draw_each (λ j. query) 0 8 l.fn.rng
