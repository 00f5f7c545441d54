use Rattle.std.proofs.Common.{◌≡◌, ◌∙◌, sym, ap, Ok}
use Rattle.dpe_base.specs.Queries.{JoinQuery}
use Rattle.query_json.proofs.QueryLaws.{no_query_fault, query_valid}
use Rattle.query_json.proofs.query.entries.query_of.Goals as goal

pub unwrap-query-requires : goal.unwrap-query-requires
unwrap-query-requires c =
    no_query_fault c.args.tables.now c.args.item.now c.in_ok-rels.rels.items c.in_ok-rels.preds.items c.new.result c.requires.within c.requires.few c.in_ok-rels.ensures c.new.ensures.err

pub returns-clause-valid : goal.returns-clause-valid
returns-clause-valid c =
    let lists : JoinQuery = record { rels = c.in_ok-rels.rels.items; preds = c.in_ok-rels.preds.items } in
    let same : c.unwrap-query.result ≡ lists = rw c.unwrap-query.ensures at c.new.ensures.value in
    query_valid c.args.tables.now c.args.item.now c.unwrap-query.result c.requires.within c.requires.few (c.in_ok-rels.ensures ∙ ap Ok (sym same))
