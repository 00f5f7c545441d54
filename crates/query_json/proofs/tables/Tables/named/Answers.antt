use Rattle.std.proofs.Common.{◌∙◌, sym, Some, None}
use Rattle.query_json.proofs.Finds.{find_key, got}
use Rattle.query_json.proofs.tables.Tables.named.Goals as goal

pub returns-in_err-number : goal.returns-in_err-number
returns-in_err-number c =
    rw (c.from_residual.ensures, ← c.self.view_is)
    (sym (find_key (λ t. t.name) c.self.inside.tables.items _ c.args.name.now None c.self.invariant (sym c.in_err-number.was ∙ c.place_of.ensures)))

pub returns : goal.returns
returns c =
    rw (← c.self.view_is, ← c.deref.ensures.value)
    (got c.deref.result.now c.in_ok-number.number c.get.result c.get.ensures.lookup.0 c.get.ensures.lookup.1
    ∙ sym (find_key (λ t. t.name) c.deref.result.now _ c.args.name.now (Some c.in_ok-number.number) (rw c.deref.ensures.value c.self.invariant) (sym c.in_ok-number.was ∙ c.place_of.ensures)))
