use Rattle.std.proofs.Common.{arith, ◌+◌, ◌∙◌, ap}
use Rattle.cost_model.specs.Words.{word, word_cost}
use Rattle.cost_model.proofs.CostLaws.{join_cost_below}
use Rattle.plan_space.proofs.LeftSteps.{joins_next}
use Rattle.plan_space.proofs.left_deep.join_in_order.Goals as goal

pub overflow_add-below : goal.overflow_add-below
overflow_add-below g c =
    omega (arith, c.cost-below.ensures, c.ranges.first, c.cost-join.ensures, join_cost_below g.M.CostModel.KIND c.loop-op.op c.args.l c.args.r c.args.o (omega arith) (omega arith) (omega arith))

pub loop-op-preserved : goal.loop-op-preserved
loop-op-preserved g c =
    joins_next c.loop-op.op g.M.CostModel.KIND c.args.left c.args.first c.cost-below.result c.args.l c.args.r c.args.o c.loop-op.least c.word_of.result c.min-least.result c.loop-op.invariant
    (c.cost-below.ensures ∙ ap word_cost c.of_bits.ensures)
    (c.word_of.ensures ∙ ap (λ j. word (c.cost-below.result + j) c.loop-op.op c.args.left) c.cost-join.ensures)
    c.min-least.ensures
