use Rattle.dpe_base.specs.Sets.{union}
use Rattle.cert_check.proofs.KnownSides.{rows_in_range, either_order}
use Rattle.cert_check.proofs.check.pair_bounded.Goals as goal

pub join_bounded-requires-clause-left : goal.join_bounded-requires-clause-left
join_bounded-requires-clause-left g c κs out =
    rows_in_range c.args.query.now c.args.bounds.now c.args.pair.a c.in-Some.first.rows c.in-Some.first.bound c.in-Some.ensures

pub join_bounded-requires-clause-right : goal.join_bounded-requires-clause-right
join_bounded-requires-clause-right g c κs out =
    rows_in_range c.args.query.now c.args.bounds.now c.args.pair.b c.in-Some-side_of.second.rows c.in-Some-side_of.second.bound c.in-Some-side_of.ensures

pub join_bounded-requires-clause-whole : goal.join_bounded-requires-clause-whole
join_bounded-requires-clause-whole g c κs out =
    rows_in_range c.args.query.now c.args.bounds.now (union c.args.pair.a c.args.pair.b) c.args.whole.rows c.args.whole.bound c.requires.whole

pub join_bounded-requires-then-join_bounded-clause-left : goal.join_bounded-requires-then-join_bounded-clause-left
join_bounded-requires-then-join_bounded-clause-left g c κs out =
    rows_in_range c.args.query.now c.args.bounds.now c.args.pair.b c.in-Some-side_of.second.rows c.in-Some-side_of.second.bound c.in-Some-side_of.ensures

pub join_bounded-requires-then-join_bounded-clause-right : goal.join_bounded-requires-then-join_bounded-clause-right
join_bounded-requires-then-join_bounded-clause-right g c κs out =
    rows_in_range c.args.query.now c.args.bounds.now c.args.pair.a c.in-Some.first.rows c.in-Some.first.bound c.in-Some.ensures

pub join_bounded-requires-then-join_bounded-clause-whole : goal.join_bounded-requires-then-join_bounded-clause-whole
join_bounded-requires-then-join_bounded-clause-whole g c κs out =
    rows_in_range c.args.query.now c.args.bounds.now (union c.args.pair.a c.args.pair.b) c.args.whole.rows c.args.whole.bound c.requires.whole

pub returns-then-join_bounded : goal.returns-then-join_bounded
returns-then-join_bounded g c =
    either_order g.M.CostModel.KIND c.args.query.now c.args.bounds.now c.args.pair.a c.args.pair.b
    c.in-Some.first.rows c.in-Some.first.bound c.in-Some-side_of.second.rows c.in-Some-side_of.second.bound c.args.whole.rows c.args.whole.bound
    c.join_bounded-then-join_bounded.result c.in-Some.ensures c.in-Some-side_of.ensures c.requires.whole
    (c.join_bounded.ensures.0 c.if-join_bounded.true) c.join_bounded-then-join_bounded.ensures
