use Rattle.std.proofs.Common.{◌<◌, arith, ap, sym, subst, length}
use Rattle.dpe_base.specs.Sets.{Within, full}
use Rattle.card_scaled.proofs.TableSteps.{table_place, table_entry, table_rows}
use Rattle.card_scaled.proofs.cards.AllRows.rows.Goals as goal

pub index-requires : goal.index-requires
index-requires c =
    let w : Within c.args.s (full c.self.inside.n) = subst (λ n. Within c.args.s (full n)) (sym (ap (λ t. t.n) c.self.view_is)) c.requires.within in
    let l : c.args.s < length c.self.inside.rows.items = table_place c.self.inside.n c.args.s _ c.self.invariant.1 w in
    omega (arith, l, c.bits.ensures, c.self.inside.rows.ok.0)

pub returns-clause-entry : goal.returns-clause-entry
returns-clause-entry c =
    let w : Within c.args.s (full c.self.inside.n) = subst (λ n. Within c.args.s (full n)) (sym (ap (λ t. t.n) c.self.view_is)) c.requires.within in
    let l : c.args.s < length c.self.inside.rows.items = table_place c.self.inside.n c.args.s _ c.self.invariant.1 w in
    table_entry c.args.self.now c.self.inside.n c.self.inside.rows.items c.bits.result c.args.s _ c.self.view_is c.bits.ensures c.index.ensures (omega (arith, l, c.bits.ensures))

pub returns-clause-cardinality : goal.returns-clause-cardinality
returns-clause-cardinality c q =
    table_rows q c.args.self.now c.args.s _ c.requires.some c.requires.within (returns-clause-entry c)
