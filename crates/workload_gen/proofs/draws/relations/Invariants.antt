use Rattle.std.proofs.Common.{◌≡◌, ◌-◌}
use Rattle.workload_gen.specs.Draws.{draw_each, relation}
use Rattle.workload_gen.proofs.Lists.{behind}
use Rattle.workload_gen.proofs.draws.relations.Given as goal

abbrev pub invariant-relations : goal.invariant-relations
invariant-relations l = behind l.relations.items (draw_each (λ i. relation) l.counter (l.n - l.counter) l.rng) ≡ draw_each (λ i. relation) 0 l.n l.fn.rng
