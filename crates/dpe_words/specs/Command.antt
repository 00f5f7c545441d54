-- The command as `clap` knows it: eight long options, each with one value, and no help flag.
use Rattle.std.specs.Prelude.{true, Some, codes, List, [], ◌∷◌, fold}
use Rattle.clap.specs.Words.{App, Rule, Text, new_app, new_rule, with_rule}
use Rattle.clap.specs.Simple.{on_top}
use Rattle.clap.specs.declared.builder.action.ArgAction.TheVariants.{Set}

abbrev pub option : Text → Rule
option name = record (new_rule name) { long = Some name; action = Some Set }

abbrev pub bare_command : App
bare_command = on_top (λ s. record s { disable_help_flag = true }) (new_app (codes "dpe"))

abbrev pub with_option : App → Text → App
with_option command name = with_rule command (option name)

abbrev pub option_names : List Text
option_names =
    codes "mode" ∷ codes "enumerator" ∷ codes "buffer" ∷ codes "workers"
    ∷ codes "model" ∷ codes "format" ∷ codes "stats" ∷ codes "number" ∷ []

abbrev pub command : App
command = fold with_option bare_command option_names

-- the whole line: the program's name, then the words
abbrev pub whole_line : List Text → List Text
whole_line words = codes "dpe" ∷ words
