use Rattle.std.proofs.Common.{◌≡◌, ◌∙◌, ap, ap₂, sym, codes, true}
use Rattle.clap.specs.Words.{Text, first_of, found_of, rows_of, matches_of, takes, fault_of, is_simple, is_simple_and_free}
use Rattle.clap.proofs.WalkLemmas.{first_value-rows}
use Rattle.dpe_words.specs.Command.{command, whole_line}
use Rattle.dpe_words.proofs.Read.{all_read, command_is_free, command_is_simple, faultless, not_taken, taken}
use Rattle.dpe_words.proofs.line.texts_in.Goals as goal

pub returns-in-Ok : goal.returns-in-Ok
returns-in-Ok c = λ words e.
    let app = c.in_ok-command.ensures in
    let f = found_of c.in-Ok.matches in
    let is_taken : takes command (whole_line words) ≡ true = faultless (whole_line words) (sym (ap₂ fault_of app e) ∙ c.in-Ok.ensures.kinds (ap is_simple_and_free app ∙ command_is_free)) in
    let rows : rows_of f ≡ matches_of command (whole_line words) = (c.in-Ok.ensures.matches (ap is_simple app ∙ command_is_simple)).0 ∙ ap₂ matches_of app e in
    let found = λ (name : Text). first_value-rows f name ∙ ap (first_of name) rows in
    taken words is_taken
    ∙ all_read words _ (c.get_str.ensures ∙ found (codes "mode")) (c.get_str-in-Ok.ensures ∙ found (codes "enumerator")) (c.get_str-in-Ok-2.ensures ∙ found (codes "buffer"))
    (c.get_str-in-Ok-3.ensures ∙ found (codes "workers")) (c.get_str-in-Ok-4.ensures ∙ found (codes "model")) (c.get_str-in-Ok-5.ensures ∙ found (codes "format"))
    (c.get_str-in-Ok-6.ensures ∙ found (codes "stats")) (c.get_str-in-Ok-7.ensures ∙ found (codes "number"))

pub returns : goal.returns
returns c = λ words e. not_taken words (λ t. c.in_default.not-OutOfMemory (c.kind.ensures ∙ c.in-Err.ensures.passes (ap₂ takes c.in_ok-command.ensures e ∙ t)))
