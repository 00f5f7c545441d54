use Rattle.std.proofs.Common.{◌<◌, length, subst, sym}
use Rattle.dpe_base.specs.Queries.{JoinQuery, with_rows, relations}
use Rattle.dpe_base.proofs.RowLaws.{query_is_set}
use Rattle.dpe_base.proofs.query.Query.set_rows.Goals as goal

pub returns-clause-value : goal.returns-clause-value
unfolding with_rows
returns-clause-value c =
    let known : c.args.r < length c.self.inside.rels.items = subst (λ (q : JoinQuery). c.args.r < relations q) (sym c.self.view_is) c.requires.known in
    rw (← c.self.view_is) (query_is_set c.self.inside.rels.items c.self.inside.preds.items c.args.r c.args.rows c.index_mut.result.now known c.index_mut.ensures.value)
