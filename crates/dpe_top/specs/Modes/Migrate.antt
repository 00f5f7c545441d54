-- Mode migrate: the workload file in version 2, in one line.
use Rattle.std.specs.Prelude.{◌≡◌, ◌++◌, ℕ, List}
use Rattle.plan_report.specs.Texts.{newline}
use Rattle.query_forms.specs.Rewriting.{rewritten_text}
use Rattle.dpe_top.specs.declared.status.Outcome.TheVariants.{Done}
use Rattle.dpe_top.specs.Answers.{Answer, Reading, reading_by}
use Rattle.dpe_top.specs.Lines.{fault_line}

-- the rewritten file, whatever its entries are
abbrev pub migrated : List ℕ → Answer
migrated file outcome text = (outcome ≡ Done) × (text ≡ file ++ newline)

-- the bytes as a file in version 2
abbrev pub migration : Reading
migration = reading_by rewritten_text migrated fault_line
