use Rattle.std.proofs.Common.{◌∙◌, ap, subst}
use Rattle.join_graph.specs.Graphs.{JoinGraph}
use Rattle.pair_stream.specs.Orders.{Complete}
use Rattle.enum_dpccp.specs.Dpccp.{seq_dpccp}
use Rattle.reopt.proofs.FromScratch.{asked_solved}
use Rattle.reopt.proofs.replan.plan_all.Goals as goal

pub prepare-requires-clause-within : goal.prepare-requires-clause-within
prepare-requires-clause-within g c κs within p h =
    let F : JoinGraph → Type 0 = λ x. Complete x c.over-all.result in
    ((subst F c.of.ensures c.over-all.ensures.complete).members p).0 h

pub returns-clause-solved : goal.returns-clause-solved
returns-clause-solved g c =
    asked_solved _ c.args.query.now _ _ _ _ _ c.in_ok-engine.ensures (c.over-all.ensures.list ∙ ap (λ (h : JoinGraph). seq_dpccp h) c.of.ensures) c.run-solved.ensures.solved

pub returns-clause-listed : goal.returns-clause-listed
returns-clause-listed g c =
    let F : JoinGraph → Type 0 = λ x. Complete x c.over-all.result in
    let G = Complete _ in
    subst G (c.over-all.ensures.list ∙ ap (λ (h : JoinGraph). seq_dpccp h) c.of.ensures) (subst F c.of.ensures c.over-all.ensures.complete)
