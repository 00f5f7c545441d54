use Rattle.std.proofs.Common.{◌∙◌, ap, map}
use Rattle.std.proofs.lemmas.List.{map_push}
use Rattle.query_json.specs.Queries.{table_of}
use Rattle.query_json.proofs.Passes.{found_more}
use Rattle.query_json.proofs.query.known_tables.Goals as goal

pub loop-relation-preserved : goal.loop-relation-preserved
loop-relation-preserved c =
    found_more (λ at. table_of c.args.tables.now) c.args.relations.now c.loop-relation.relation-index c.relation-item.result c.in_ok-table.table.now
    (map (λ t. t.now) c.loop-relation.known.items) (map (λ t. t.now) c.push.new.self.items) _ c.loop-relation-test.true c.relation-item.is
    c.in_ok-table.ensures (ap (map (λ t. t.now)) c.in_ok-push.ensures.items ∙ map_push (λ t. t.now) c.loop-relation.known.items c.in_ok-table.table) c.loop-relation.invariant
