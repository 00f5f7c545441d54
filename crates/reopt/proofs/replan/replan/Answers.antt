use Rattle.std.proofs.Common.{◌≡◌, ◌^◌, ◌<◌, ℕ, List, ◌∙◌, ap, sym, subst}
use Rattle.join_graph.specs.Graphs.{JoinGraph}
use Rattle.pair_stream.specs.Orders.{Complete}
use Rattle.dpe_base.specs.declared.pair.Pair.{Pair}
use Rattle.enum_dpccp.specs.Dpccp.{seq_dpccp}
use Rattle.enum_dpccp.specs.Touching.{touching}
use Rattle.dpe_engine.proofs.Ends.{builds_of}
use Rattle.reopt.specs.Keeping.{KeepsOthers}
use Rattle.reopt.proofs.Beginnings.{may_offer, left_is_rest}
use Rattle.reopt.proofs.FromScratch.{again}
use Rattle.reopt.proofs.replan.replan.Goals as goal

pub prepare-requires-clause-builds : goal.prepare-requires-clause-builds
prepare-requires-clause-builds g c = λ κs within.
    let F : JoinGraph → Type 0 = λ h. Complete h c.over-all.result in
    let complete = subst F c.of-graph.ensures c.over-all.ensures.complete in
    builds_of _ _ (λ p h. (complete.members p).0 h) c.over-all.ensures.ordered

pub offer_others-requires-clause-words : goal.offer_others-requires-clause-words
offer_others-requires-clause-words g c = λ κs within s low none.
    let F : JoinGraph → Type 0 = λ h. Complete h c.over-all.result in
    let complete = subst F c.of-graph.ensures c.over-all.ensures.complete in
    let low' = subst (λ (k : ℕ). s < 2 ^ k) c.n-n.ensures.value low in
    rw (c.in_ok-engine.ensures.plan, c.row.ensures) (may_offer g.M.CostModel.KIND c.args.query.now c.over-all.result s _ c.n-n.ensures.valid complete.members (c.requires.kept.each s low' none))

pub run-solved-requires-clause-rest : goal.run-solved-requires-clause-rest
run-solved-requires-clause-rest g c = λ κs within.
    let settings = c.args.settings.now in
    let F : JoinGraph → Type 0 = λ h. Complete h c.over-all.result in
    let complete = subst F c.of-graph.ensures c.over-all.ensures.complete in
    let R : List ℕ → Type 0 = KeepsOthers g.M.CostModel.KIND c.args.query.now settings.r in
    left_is_rest _ c.args.query.now c.over-all.result c.row.result.now settings.r c.n-n.result _ _ _ _ _ c.n-n.ensures.valid (c.offer_others.ensures.plan ∙ c.in_ok-engine.ensures.plan) complete.members c.over-all.ensures.ordered
    c.n-n.ensures.value (subst R (sym c.row.ensures) c.requires.kept) c.offer_others.ensures (c.over-touching.ensures.list ∙ ap (λ (l : List Pair). touching settings.r l) (sym c.over-all.ensures.list))

pub returns : goal.returns
returns g c =
    let settings = c.args.settings.now in
    let F : JoinGraph → Type 0 = λ h. Complete h c.over-all.result in
    let complete = subst F c.of-graph.ensures c.over-all.ensures.complete in
    again _ c.args.query.now c.over-all.result settings.r settings.workers settings.buffer _ _ _ c.n-n.ensures.valid (c.offer_others.ensures.plan ∙ c.in_ok-engine.ensures.plan)
    (c.over-all.ensures.list ∙ ap (λ (h : JoinGraph). seq_dpccp h) c.of-graph.ensures) complete (c.over-touching.ensures.list ∙ ap (λ (l : List Pair). touching settings.r l) (sym c.over-all.ensures.list)) c.run-solved.ensures.solved

pub over-touching-requires : goal.over-touching-requires
over-touching-requires g c = subst (λ (h : JoinGraph). c.args.settings.now.r < h.n) (sym c.of-graph.ensures) c.requires.relation
