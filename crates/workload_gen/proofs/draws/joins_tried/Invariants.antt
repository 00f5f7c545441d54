use Rattle.std.proofs.Common.{◌≡◌, ◌-◌}
use Rattle.workload_gen.specs.Draws.{draw_each, extra_join, joins_tried}
use Rattle.workload_gen.proofs.Lists.{behind_present}
use Rattle.workload_gen.proofs.draws.joins_tried.Given as goal

abbrev pub invariant-joins : goal.invariant-joins
invariant-joins l = behind_present l.joins.items (draw_each (λ k. extra_join l.n) l.counter (l.count - l.counter) l.rng) ≡ joins_tried l.n l.count l.fn.rng
