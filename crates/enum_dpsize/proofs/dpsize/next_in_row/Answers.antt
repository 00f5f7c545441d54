use Rattle.std.proofs.Common.{◌≡◌, ◌∙◌, sym, drop, []}
use Rattle.enum_dpsize.specs.Dpsize.{pairs_with}
use Rattle.enum_dpsize.proofs.RowLaws.{row_taken, row_passed, row_over}
use Rattle.enum_dpsize.proofs.dpsize.next_in_row.Goals as goal

pub returns-then-is_joinable : goal.returns-then-is_joinable
returns-then-is_joinable c =
    c.row.invariant
    ∙ row_taken c.args.graph.now c.args.ys.now c.args.at.set c.row.next c.index-ys-next.result c.pair_by_least.result c.row-test.true c.index-ys-next.is (sym c.if-is_joinable.true ∙ c.is_joinable.ensures) c.pair_by_least.ensures

pub row-preserved : goal.row-preserved
row-preserved c =
    c.row.invariant
    ∙ row_passed c.args.graph.now c.args.ys.now c.args.at.set c.row.next c.index-ys-next.result c.row-test.true c.index-ys-next.is (sym c.if-is_joinable.false ∙ c.is_joinable.ensures)

pub returns : goal.returns
returns c =
    let none : pairs_with c.args.graph.now (drop c.row.next c.args.ys.now) c.args.at.set ≡ [] = row_over c.args.graph.now c.args.ys.now c.args.at.set c.row.next c.row-test.false in
    (c.row.invariant ∙ none, none)
