use Rattle.std.proofs.Common.{◌∙◌, Err, sym, ap}
use Rattle.query_json.specs.declared.refusal.QueryRefusal.TheVariants.{DuplicateAlias}
use Rattle.query_json.specs.Names.{distinct_names}
use Rattle.query_json.specs.Queries.{or_alias_twice}
use Rattle.query_json.proofs.Apart.{name_again, one_apart}
use Rattle.query_json.proofs.query.aliases.check_aliases.Goals as goal

pub returns-then-is_some : goal.returns-then-is_some
returns-then-is_some c =
    ap or_alias_twice
    (name_again (λ r. r.alias) c.args.relations.now c.relations.at c.index-relations-at.result c.number_of.result (distinct_names (λ r. r.alias) c.args.relations.now)
    c.relations-test.true c.index-relations-at.is (rw c.text.ensures at c.number_of.ensures) c.relations.invariant (sym c.is_some.ensures ∙ c.if-is_some.true))
    ∙ ap (λ n. Err (DuplicateAlias n)) (sym c.in_ok-alias.ensures)

pub relations-preserved : goal.relations-preserved
relations-preserved c =
    one_apart (λ r. r.alias) c.args.relations.now c.relations.at c.index-relations-at.result c.number_of.result (distinct_names (λ r. r.alias) c.args.relations.now)
    c.relations-test.true c.index-relations-at.is (rw c.text.ensures at c.number_of.ensures) c.relations.invariant (sym c.is_some.ensures ∙ c.if-is_some.false)
