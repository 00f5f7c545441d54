use Rattle.std.proofs.Common.{◌≡◌, ◌-◌}
use Rattle.workload_gen.specs.Draws.{draw_each, tree_join}
use Rattle.workload_gen.proofs.Lists.{behind}
use Rattle.workload_gen.proofs.draws.tree_joins.Given as goal

abbrev pub invariant-joins : goal.invariant-joins
invariant-joins l = behind l.joins.items (draw_each tree_join l.i (l.n - l.i) l.rng) ≡ draw_each tree_join 1 (l.n - 1) l.fn.rng
