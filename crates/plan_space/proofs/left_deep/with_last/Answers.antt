use Rattle.std.proofs.Common.{◌∙◌, sym, subst, arith}
use Rattle.dpe_base.specs.Sets.{Within, full}
use Rattle.dpe_base.proofs.SetLaws.{has_some, single_some}
use Rattle.dpe_base.proofs.SizeLaws.{full_below, within_span}
use Rattle.plan_space.proofs.LeftSteps.{in_graph, last_within, left_within, rest_some, rows_in, ends_with}
use Rattle.plan_space.proofs.left_deep.with_last.Goals as goal

pub single-last-requires : goal.single-last-requires
single-last-requires g c =
    omega (arith, in_graph c.args.graph.now.n c.args.s c.args.r c.requires.known c.requires.has, c.recall.ensures.few)

pub bounds-words-bits : goal.bounds-words-bits
bounds-words-bits g c =
    omega (arith, full_below c.minus-left.result c.args.graph.now.n (left_within c.args.graph.now.n c.args.s c.single-last.result c.minus-left.result c.requires.known c.minus-left.ensures), c.bits.ensures, c.requires.words)

pub joined-requires-clause-a_in : goal.joined-requires-clause-a_in
joined-requires-clause-a_in g c =
    last_within c.args.graph.now.n c.args.s c.args.r c.single-last.result c.requires.known c.requires.has c.single-last.ensures

pub joined-requires-clause-b_in : goal.joined-requires-clause-b_in
joined-requires-clause-b_in g c =
    left_within c.args.graph.now.n c.args.s c.single-last.result c.minus-left.result c.requires.known c.minus-left.ensures

pub rows-left_rows-requires-clause-some : goal.rows-left_rows-requires-clause-some
rows-left_rows-requires-clause-some g c =
    rest_some c.args.s c.args.r c.single-last.result c.minus-left.result c.requires.many c.requires.has c.single-last.ensures c.minus-left.ensures

pub rows-left_rows-requires-clause-within : goal.rows-left_rows-requires-clause-within
rows-left_rows-requires-clause-within g c =
    subst (λ n. Within c.minus-left.result (full n)) (sym c.requires.cards)
    (left_within c.args.graph.now.n c.args.s c.single-last.result c.minus-left.result c.requires.known c.minus-left.ensures)

pub rows-out-requires-clause-some : goal.rows-out-requires-clause-some
rows-out-requires-clause-some g c = has_some c.args.s c.args.r c.requires.has

pub rows-last_rows-requires-clause-some : goal.rows-last_rows-requires-clause-some
rows-last_rows-requires-clause-some g c = λ e. single_some c.args.r (sym c.single-last.ensures ∙ e)

pub rows-last_rows-requires-clause-within : goal.rows-last_rows-requires-clause-within
rows-last_rows-requires-clause-within g c =
    subst (λ n. Within c.single-last.result (full n)) (sym c.requires.cards)
    (last_within c.args.graph.now.n c.args.s c.args.r c.single-last.result c.requires.known c.requires.has c.single-last.ensures)

pub join_in_order-requires-clause-set : goal.join_in_order-requires-clause-set
join_in_order-requires-clause-set g c κs within =
    within_span c.minus-left.result c.args.graph.now.n (left_within c.args.graph.now.n c.args.s c.single-last.result c.minus-left.result c.requires.known c.minus-left.ensures) c.recall.ensures.few

pub join_in_order-requires-clause-left : goal.join_in_order-requires-clause-left
join_in_order-requires-clause-left g c κs within =
    rows_in c.args.cards.now c.args.graph.now.n c.minus-left.result c.rows-left_rows.result c.requires.rows c.requires.cards
    (rest_some c.args.s c.args.r c.single-last.result c.minus-left.result c.requires.many c.requires.has c.single-last.ensures c.minus-left.ensures)
    (left_within c.args.graph.now.n c.args.s c.single-last.result c.minus-left.result c.requires.known c.minus-left.ensures)
    c.rows-left_rows.ensures.entry

pub join_in_order-requires-clause-right : goal.join_in_order-requires-clause-right
join_in_order-requires-clause-right g c κs within =
    rows_in c.args.cards.now c.args.graph.now.n c.single-last.result c.rows-last_rows.result c.requires.rows c.requires.cards
    (λ e. single_some c.args.r (sym c.single-last.ensures ∙ e))
    (last_within c.args.graph.now.n c.args.s c.args.r c.single-last.result c.requires.known c.requires.has c.single-last.ensures)
    c.rows-last_rows.ensures.entry

pub join_in_order-requires-clause-out : goal.join_in_order-requires-clause-out
join_in_order-requires-clause-out g c κs within =
    rows_in c.args.cards.now c.args.graph.now.n c.args.s c.rows-out.result c.requires.rows c.requires.cards (has_some c.args.s c.args.r c.requires.has) c.requires.known c.rows-out.ensures.entry

pub returns : goal.returns
returns g c =
    ends_with g.M.CostModel.KIND c.args.graph.now c.args.cards.now.rows c.args.words.now c.args.s c.args.r c.single-last.result c.minus-left.result c.bits.result c.rows-left_rows.result c.rows-last_rows.result c.rows-out.result c.join_in_order.result c.single-last.ensures c.minus-left.ensures c.bits.ensures c.rows-left_rows.ensures.entry c.rows-last_rows.ensures.entry c.rows-out.ensures.entry c.if-first.false (c.joined.ensures.0 c.if-not-joined.false) c.join_in_order.ensures
