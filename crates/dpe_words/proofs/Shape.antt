-- What the command is after the flag of help was taken away.
use Rattle.std.proofs.Common.{◌≡◌, ◌∙◌, true, ap}
use Rattle.clap.specs.declared.builder.command.Command.{Command}
use Rattle.clap.specs.declared.builder.command.Command.TheViews.{out-Command}
use Rattle.clap.specs.Words.{App, Text, app_of, with_rule}
use Rattle.dpe_words.specs.Command.{option}
use Rattle.clap.specs.Simple.{on_top, app_of_fields}

pub without_help : (c d : Command) → out-Command d ≡ record (out-Command c) { disable_help_flag = true } → app_of d ≡ on_top (λ s. record s { disable_help_flag = true }) (app_of c)
without_help c d e = ap app_of_fields e

-- one more option
pub with_one : (before : App) (name : Text) (c d : Command) → app_of d ≡ with_rule (app_of c) (option name) → app_of c ≡ before → app_of d ≡ with_rule before (option name)
with_one before name c d e h = e ∙ ap (λ a. with_rule a (option name)) h
