use Rattle.std.proofs.Common.{◌≡◌, ◌∙◌, ap, true, codes}
use Rattle.std.proofs.lemmas.Result.{IfOk-weaker}
use Rattle.clap.specs.Words.{app_of, new_app}
use Rattle.clap.specs.Simple.{on_top}
use Rattle.dpe_words.proofs.Shape.{without_help, with_one}
use Rattle.dpe_words.proofs.command.dpe_command.Goals as goal

pub returns : goal.returns
returns c =
    let bare : app_of c.disable_help_flag-command.result ≡ on_top (λ s. record s { disable_help_flag = true }) (new_app (codes "dpe")) =
    without_help c.new.result c.disable_help_flag-command.result c.disable_help_flag-command.ensures ∙ ap (on_top (λ s. record s { disable_help_flag = true })) c.new.ensures.app in
    IfOk-weaker c.with_option-8.result _ _ (λ d e. with_one _ (codes "number") _ d e
    (with_one _ (codes "stats") _ _ c.in_ok-command-7.ensures (with_one _ (codes "format") _ _ c.in_ok-command-6.ensures
    (with_one _ (codes "model") _ _ c.in_ok-command-5.ensures (with_one _ (codes "workers") _ _ c.in_ok-command-4.ensures
    (with_one _ (codes "buffer") _ _ c.in_ok-command-3.ensures (with_one _ (codes "enumerator") _ _ c.in_ok-command-2.ensures
    (with_one _ (codes "mode") _ _ c.in_ok-command.ensures bare)))))))) c.with_option-8.ensures
