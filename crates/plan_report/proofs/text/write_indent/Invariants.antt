use Rattle.std.proofs.Common.{◌≡◌, ◌++◌, string_bytes}
use Rattle.plan_report.specs.Texts.{indent}
use Rattle.plan_report.proofs.text.write_indent.Given as goal

abbrev pub invariant-loop : goal.invariant-loop
invariant-loop l = string_bytes l.out ≡ string_bytes l.fn.out ++ indent l.counter
