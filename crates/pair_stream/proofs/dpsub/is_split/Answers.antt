use Rattle.std.proofs.Common.{sym, subst}
use Rattle.std.proofs.lemmas.Bool.{iff_false}
use Rattle.dpe_base.specs.Sets.{Within, full}
use Rattle.pair_stream.proofs.DpsubSteps.{not_second, by_first, rest_in}
use Rattle.pair_stream.proofs.dpsub.is_split.Goals as goal

pub connected-requires : goal.connected-requires
connected-requires c =
    subst (λ s. Within s (full c.args.graph.now.n)) (sym c.minus.ensures) (rest_in c.args.set c.args.a c.args.graph.now.n c.requires.within)

pub returns-then-not-connected : goal.returns-then-not-connected
returns-then-not-connected c =
    sym (not_second c.args.graph.now c.args.set c.args.a c.recall.ensures (iff_false (rw c.minus.ensures at c.connected.ensures) c.if-not-connected.true))

pub returns : goal.returns
returns c =
    by_first c.args.graph.now c.args.set c.args.a c.connected-2.result c.recall.ensures c.requires.least
    ((rw c.minus.ensures at c.connected.ensures).0 c.if-not-connected.false) c.connected-2.ensures
