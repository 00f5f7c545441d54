use Rattle.card_scaled.proofs.TableRows.{table_is}
use Rattle.card_scaled.proofs.sparse.ConnectedRows.make.Goals as goal

pub returns : goal.returns
returns c = table_is c.args.query.now c.in_ok-query.query c.in_ok-query.ensures
