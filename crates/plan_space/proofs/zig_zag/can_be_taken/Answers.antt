use Rattle.std.proofs.Common.{sym}
use Rattle.std.proofs.lemmas.Bool.{iff_false}
use Rattle.pair_stream.proofs.SubsetLaws.{within_most}
use Rattle.plan_space.proofs.LeftSteps.{left_within}
use Rattle.plan_space.proofs.ZigZagSteps.{not_a_member, not_counted, by_code}
use Rattle.plan_space.proofs.zig_zag.can_be_taken.Goals as goal

pub returns-then-not-has : goal.returns-then-not-has
returns-then-not-has c = sym (not_a_member c.args.graph.now c.args.set c.args.r c.recall.ensures (iff_false c.has.ensures c.if-not-has.true))

pub counts-requires-clause-known : goal.counts-requires-clause-known
counts-requires-clause-known c = within_most c.args.set c.args.graph.now.n c.requires.known c.recall.ensures.few

pub returns-then-not-counts : goal.returns-then-not-counts
returns-then-not-counts c = sym (not_counted c.args.graph.now c.args.set c.args.r c.recall.ensures (iff_false c.counts.ensures c.if-not-counts.true))

pub connected-requires : goal.connected-requires
connected-requires c = left_within c.args.graph.now.n c.args.set c.single.result c.minus.result c.requires.known c.minus.ensures

pub returns : goal.returns
returns c =
    by_code c.args.graph.now c.args.set c.args.r c.single.result c.minus.result c.connected.result c.recall.ensures (c.has.ensures.0 c.if-not-has.false) (c.counts.ensures.0 c.if-not-counts.false) c.single.ensures c.minus.ensures c.connected.ensures
