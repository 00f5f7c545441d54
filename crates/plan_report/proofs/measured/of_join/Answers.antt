use Rattle.std.proofs.Common.{arith}
use Rattle.dpe_base.proofs.SetLaws.{sets}
use Rattle.dpe_base.proofs.SizeLaws.{union_some}
use Rattle.card_scaled.proofs.CardLaws.{rows_bounds}
use Rattle.plan_report.proofs.measured.of_join.Goals as goal

pub rows_once-rows-requires-clause-some : goal.rows_once-rows-requires-clause-some
rows_once-rows-requires-clause-some g c = λ e. union_some c.args.left.set c.args.right.set c.requires.left.some (omega arith)

pub rows_once-rows-requires-clause-within : goal.rows_once-rows-requires-clause-within
rows_once-rows-requires-clause-within g c = rw c.union-set.ensures (λ r. grind (arith, sets, c.requires.left.within r, c.requires.right.within r))

pub cost-join-requires-clause-left : goal.cost-join-requires-clause-left
cost-join-requires-clause-left g c = rw c.requires.left_rows (rows_bounds c.args.query.now c.args.left.set)

pub cost-join-requires-clause-right : goal.cost-join-requires-clause-right
cost-join-requires-clause-right g c = rw c.requires.right_rows (rows_bounds c.args.query.now c.args.right.set)

pub cost-join-requires-clause-out : goal.cost-join-requires-clause-out
cost-join-requires-clause-out g c = rw c.rows_once-rows.ensures (rows_bounds c.args.query.now c.union-set.result)
