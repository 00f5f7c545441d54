use Rattle.dpe_base.specs.Queries.{relations}
use Rattle.dpe_base.proofs.SizeLaws.{within_span}
use Rattle.plan_space.proofs.LeftSteps.{many_from, has_rows, left_alone, left_many}
use Rattle.plan_space.proofs.left_deep.left_word.Goals as goal

pub word_of-requires-clause-left : goal.word_of-requires-clause-left
word_of-requires-clause-left g c = within_span c.args.s (relations c.args.query.now) c.requires.known c.recall.ensures.few

pub with_any_last-requires-clause-many : goal.with_any_last-requires-clause-many
with_any_last-requires-clause-many g c κs within = many_from c.args.s c.len.result c.requires.some c.len.ensures c.if-len-eq1.false

pub with_any_last-requires-clause-rows : goal.with_any_last-requires-clause-rows
with_any_last-requires-clause-rows g c κs within = has_rows c.args.query.now c.args.cards.now c.requires.cards

pub returns-then-len-eq1 : goal.returns-then-len-eq1
returns-then-len-eq1 g c =
    left_alone g.M.CostModel.KIND c.args.query.now c.args.s c.len.result c.word_of.result c.recall.ensures c.requires.known c.len.ensures c.if-len-eq1.true c.word_of.ensures

pub returns-else-len-eq1 : goal.returns-else-len-eq1
returns-else-len-eq1 g c =
    left_many g.M.CostModel.KIND c.args.query.now c.args.graph.now c.args.cards.now c.args.words.now c.args.s c.recall.ensures c.requires.graph c.requires.cards c.requires.known c.requires.some c.requires.smaller c.with_any_last.result
    (many_from c.args.s c.len.result c.requires.some c.len.ensures c.if-len-eq1.false) c.with_any_last.ensures
