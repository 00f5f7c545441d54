use Rattle.std.proofs.Common.{◌≤◌, arith}
use Rattle.dpe_base.specs.declared.TheConstants.{ROW_CAP}
use Rattle.dpe_base.proofs.SetLaws.{sets}
use Rattle.dpe_base.proofs.SizeLaws.{union_some}
use Rattle.card_scaled.proofs.CardLaws.{rows_bounds}
use Rattle.join_tree.proofs.TreeCosts.{capped_cost}
use Rattle.join_tree.proofs.tree.operator_cost.Goals as goal

pub rows_once-requires-clause-some : goal.rows_once-requires-clause-some
rows_once-requires-clause-some g c = λ e. union_some c.args.left c.args.right c.requires.left.some (omega arith)

pub rows_once-requires-clause-within : goal.rows_once-requires-clause-within
rows_once-requires-clause-within g c = rw c.union.ensures (λ r. grind (arith, sets, c.requires.left.within r, c.requires.right.within r))

pub returns-clause-small : goal.returns-clause-small
returns-clause-small g c =
    let left : c.rows_once-l.result ≤ ROW_CAP = omega (arith, c.rows_once-l.ensures, rows_bounds c.args.query.now c.args.left) in
    let right : c.rows_once-r.result ≤ ROW_CAP = omega (arith, c.rows_once-r.ensures, rows_bounds c.args.query.now c.args.right) in
    let out : c.rows_once.result ≤ ROW_CAP = omega (arith, c.rows_once.ensures, rows_bounds c.args.query.now c.union.result) in
    capped_cost _ _ _ _ _ _ c.cost.ensures (omega arith) (omega arith) (omega arith)
