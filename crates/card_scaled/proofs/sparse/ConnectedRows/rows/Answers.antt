use Rattle.card_scaled.proofs.TableRows.{entry_is}
use Rattle.card_scaled.proofs.TableSteps.{table_rows}
use Rattle.card_scaled.proofs.sparse.ConnectedRows.rows.Goals as goal

pub returns-in-Some-clause-entry : goal.returns-in-Some-clause-entry
returns-in-Some-clause-entry c =
    entry_is c.self.inside.query c.args.self.now c.args.s _ c.self.view_is c.requires.within (c.in-Some.ensures c.self.inside.query c.self.invariant).rows

pub returns-in-Some-clause-cardinality : goal.returns-in-Some-clause-cardinality
returns-in-Some-clause-cardinality c q =
    table_rows q c.args.self.now c.args.s _ c.requires.some c.requires.within (returns-in-Some-clause-entry c)

pub returns-in-None-clause-entry : goal.returns-in-None-clause-entry
returns-in-None-clause-entry c =
    entry_is c.self.inside.query c.args.self.now c.args.s _ c.self.view_is c.requires.within c.rows_once.ensures

pub returns-in-None-clause-cardinality : goal.returns-in-None-clause-cardinality
returns-in-None-clause-cardinality c q =
    table_rows q c.args.self.now c.args.s _ c.requires.some c.requires.within (returns-in-None-clause-entry c)
