-- The line that is written when the arguments are invalid.
use Rattle.std.specs.Prelude.{ℕ, List, ◌++◌, codes}
use Rattle.plan_report.specs.Texts.{newline}

unfoldable pub usage_line : List ℕ
usage_line =
    codes "usage: dpe [--mode M] [--enumerator E] [--buffer N] [--workers N] [--model M] [--format F] [--stats S] [--number N]"
    ++ newline
