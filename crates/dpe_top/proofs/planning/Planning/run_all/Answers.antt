use Rattle.std.proofs.Common.{◌≡◌, ◌^◌, length, subst}
use Rattle.dpe_base.specs.Queries.{relations}
use Rattle.join_graph.specs.Graphs.{JoinGraph, Pairs}
use Rattle.pair_stream.specs.Orders.{Complete}
use Rattle.dpe_engine.specs.Engines.{EnginePlan, AreLeastWords}
use Rattle.reopt.proofs.FromScratch.{least_words_can_be_kept}
use Rattle.dpe_top.proofs.planning.Planning.run_all.Goals as goal

pub prepare-requires-clause-within : goal.prepare-requires-clause-within
prepare-requires-clause-within g c κs within p h = subst (λ (x : JoinGraph). Pairs x p) c.of-graph.ensures ((c.over-all.ensures.complete.members p).0 h)

pub returns-clause-best : goal.returns-clause-best
returns-clause-best g c =
    let kind = g.M.CostModel.KIND in
    let r = c.run-solved.ensures.solved in
    let row = c.run-solved.result.0.words.row in
    let F : EnginePlan → Type 0 = λ e. AreLeastWords kind e.query e.pairs row in
    let G : EnginePlan → Type 0 = λ e. length row ≡ 2 ^ relations e.query in
    let H : JoinGraph → Type 0 = λ x. Complete x c.over-all.result in
    least_words_can_be_kept kind c.args.query.now c.over-all.result row c.recall.ensures c.requires.connected (subst H c.of-graph.ensures c.over-all.ensures.complete) (subst G c.in_ok-engine.ensures r.size) (subst F c.in_ok-engine.ensures r.words)
