use Rattle.std.proofs.Common.{◌≡◌, ◌-◌}
use Rattle.workload_gen.specs.Draws.{draw_each, table}
use Rattle.workload_gen.proofs.Lists.{behind}
use Rattle.workload_gen.proofs.draws.tables.Given as goal

abbrev pub invariant-tables : goal.invariant-tables
invariant-tables l = behind l.tables.items (draw_each (λ t. table) l.counter (8 - l.counter) l.rng) ≡ draw_each (λ t. table) 0 8 l.fn.rng
