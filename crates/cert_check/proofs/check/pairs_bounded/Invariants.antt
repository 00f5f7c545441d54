use Rattle.std.proofs.Common.{◌<◌}
use Rattle.dpe_base.specs.declared.pair.Pair.{Pair}
use Rattle.dpe_base.specs.Sets.{union}
use Rattle.join_graph.specs.Graphs.{Pairs, graph_of}
use Rattle.cert_check.specs.Certificates.{PairBounded}
use Rattle.cert_check.proofs.check.pairs_bounded.Given as goal

abbrev pub invariant-loop-s : goal.invariant-loop-s
invariant-loop-s g l =
    (p : Pair) → Pairs (graph_of l.query) p → union p.a p.b < l.s → PairBounded g.M.CostModel.KIND l.query l.bounds p
