use Rattle.std.proofs.Common.{◌∙◌, sym, ap}
use Rattle.query_json.specs.declared.refusal.QueryRefusal.TheVariants.{UnknownAlias}
use Rattle.query_json.specs.Queries.{found}
use Rattle.query_json.proofs.query.scope.Scope.number.Goals as goal

pub returns-in-Some : goal.returns-in-Some
returns-in-Some c =
    rw (← c.self.view_is)
    (ap (found (UnknownAlias c.args.alias.now)) (sym (rw (c.text.ensures, c.as_slice.ensures) at c.number_of.ensures) ∙ c.in-Some.is))

pub returns-in_ok-alias-in-None : goal.returns-in_ok-alias-in-None
returns-in_ok-alias-in-None c =
    rw (← c.self.view_is, c.in_ok-alias-in-None.ensures)
    (ap (found (UnknownAlias c.args.alias.now)) (sym (rw (c.text.ensures, c.as_slice.ensures) at c.number_of.ensures) ∙ c.in-None.is))
