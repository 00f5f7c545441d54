use Rattle.std.proofs.Common.{◌≤◌, ap, sym, ◌∙◌, subst}
use Rattle.serde_json.specs.Data.{depth}
use Rattle.serde_json.specs.View.{view}
use Rattle.serde_json.specs.Written.{has_float}
use Rattle.query_forms.proofs.Depths.{file_shallow}
use Rattle.query_forms.proofs.Floats.{file_whole}
use Rattle.query_forms.proofs.rewriting.rewritten.Goals as goal

pub returns-clause-whole_numbers : goal.returns-clause-whole_numbers
returns-clause-whole_numbers c = ap has_float c.in_ok-rewritten_file.ensures ∙ file_whole (view c.args.value.now)

pub returns-clause-shallow : goal.returns-clause-shallow
returns-clause-shallow c = subst (λ d. depth d ≤ 6) (sym c.in_ok-rewritten_file.ensures) (file_shallow (view c.args.value.now))
