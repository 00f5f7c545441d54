use Rattle.std.proofs.Common.{arith}
use Rattle.dpe_base.specs.Queries.{relations}
use Rattle.dpe_base.proofs.SizeLaws.{full_below}
use Rattle.plan_space.proofs.LeftLaws.{left_least}
use Rattle.plan_space.proofs.LeftSteps.{below_within, size_is, words_first}
use Rattle.plan_space.proofs.left_deep.left_words.Goals as goal

pub loop-k-init : goal.loop-k-init
loop-k-init g c =
    let first = words_first g.M.CostModel.KIND c.args.query.now _ c.in_ok-words.words.items c.n.ensures.valid (size_is c.args.query.now c.n.result c.n.ensures.valid c.n.ensures.value) (c.in_ok-words.ensures.items_if_clones_equal (λ y e. e)) in
    record { sized = first.0; places = first.1 }

pub left_word-word-requires-clause-known : goal.left_word-word-requires-clause-known
left_word-word-requires-clause-known g c κs within =
    below_within c.of_bits-s.result (relations c.args.query.now) (omega (arith, c.of_bits-s.ensures, c.loop-k-test.true, size_is c.args.query.now c.n.result c.n.ensures.valid c.n.ensures.value))

pub returns-clause-words : goal.returns-clause-words
returns-clause-words g c x connected within =
    left_least g.M.CostModel.KIND c.args.query.now c.n.ensures.valid x _ connected
    (c.loop-k.invariant.places x (omega (arith, full_below x (relations c.args.query.now) within, c.loop-k-test.false, size_is c.args.query.now c.n.result c.n.ensures.valid c.n.ensures.value)))
