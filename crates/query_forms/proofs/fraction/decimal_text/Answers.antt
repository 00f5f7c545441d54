use Rattle.std.proofs.Common.{◌<◌, subst}
use Rattle.query_forms.proofs.Powers.{ten_some}
use Rattle.query_forms.proofs.fraction.decimal_text.Goals as goal

pub nonzero_div-ratio : goal.nonzero_div-ratio
nonzero_div-ratio c = subst (λ n. 0 < n) c.requires.power (ten_some c.args.places)
