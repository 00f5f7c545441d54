use Rattle.std.proofs.Common.{◌≡◌, ◌∙◌, ◌<◌, ℕ, List, length, get_or, Err, arith, sym, ap, refl}
use Rattle.std.proofs.lemmas.Option.{slice_get-get_or}
use Rattle.query_json.specs.declared.file.RelationItem.{RelationItem}
use Rattle.query_json.specs.declared.refusal.QueryRefusal.TheVariants.{Disconnected}
use Rattle.query_json.specs.Queries.{alias_at, or_disconnected}
use Rattle.query_json.proofs.UnreachedLaws.{first_none, first_some}
use Rattle.query_json.proofs.query.entries.check_connected.Goals as goal

alias_read : (rs : List RelationItem) (r : ℕ) (d : RelationItem) → r < length rs → alias_at rs r ≡ (get_or rs r d).alias
alias_read rs r d l = rw (slice_get-get_or rs r d l, alias_at) refl

pub returns-in-None-clause-value : goal.returns-in-None-clause-value
returns-in-None-clause-value c = ap (or_disconnected c.args.items.now) (first_none c.args.query.now c.requires.valid (rw c.of.ensures at (c.in-None.ensures.none.0 refl)))

pub returns-in_ok-alias-in-Some-clause-value : goal.returns-in_ok-alias-in-Some-clause-value
returns-in_ok-alias-in-Some-clause-value c =
    ap (or_disconnected c.args.items.now) (first_some c.args.query.now c.in-Some.r c.requires.valid (rw c.of.ensures at c.in-Some.ensures.some))
    ∙ ap (λ a. Err (Disconnected a))
    (alias_read c.args.items.now c.in-Some.r c.index-items-r.result (omega (arith, ap (λ g. g.n) c.of.ensures, c.in-Some.ensures.some.known, c.requires.sized)) ∙ sym c.in_ok-alias-in-Some.ensures)
