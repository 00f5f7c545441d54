-- The modes: each in a file of its own, and what the settings ask for in each of them.
use Rattle.dpe_words.specs.declared.choices.Mode.{Mode}
use Rattle.dpe_words.specs.declared.choices.Mode.TheVariants as mode
use Rattle.dpe_words.specs.declared.choices.Settings.{Settings}
use Rattle.dpe_top.specs.Answers.{Task, at_once, reads}
use Rattle.dpe_top.specs.Modes.Certify.{certificates_of_bytes}
use Rattle.dpe_top.specs.Modes.Check.{verdicts_of_bytes}
use Rattle.dpe_top.specs.Modes.Migrate.{migration}
use Rattle.dpe_top.specs.Modes.Replan.{replanned_of_bytes}
use Rattle.dpe_top.specs.Modes.Report.{report_of_bytes}
use Rattle.dpe_top.specs.Modes.Sample.{sample}
pub mod Certify
pub mod Check
pub mod Migrate
pub mod Replan
pub mod Report
pub mod Sample

abbrev pub task_in : Mode → Settings → Task
task_in mode.Plan settings = reads (report_of_bytes settings)
task_in mode.Sample settings = at_once (sample settings)
task_in mode.Migrate settings = reads migration
task_in mode.Certify settings = reads (certificates_of_bytes settings)
task_in mode.Check settings = reads verdicts_of_bytes
task_in mode.Narrow settings = reads (report_of_bytes settings)
task_in mode.Zigzag settings = reads (report_of_bytes settings)
task_in mode.Leftdeep settings = reads (report_of_bytes settings)
task_in mode.Reopt settings = reads (replanned_of_bytes settings)

-- what the settings ask for
abbrev pub task_by : Settings → Task
task_by settings = task_in settings.mode settings
