use Rattle.std.proofs.Common.{◌≡◌, ℕ, List, ap, sym, subst}
use Rattle.dpe_base.specs.declared.pair.Pair.{Pair}
use Rattle.join_graph.specs.Graphs.{JoinGraph}
use Rattle.pair_stream.specs.Orders.{Complete, Ordered}
use Rattle.dpe_engine.specs.Engines.{EnginePlan, IsKnown, IsRest}
use Rattle.dpe_engine.proofs.Ends.{builds_of, all_rest}
use Rattle.dpe_engine.proofs.Advances.{begins_buffer}
use Rattle.dpe_engine.proofs.tests.rounds.opened.Goals as goal

pub prepare-requires-clause-builds : goal.prepare-requires-clause-builds
prepare-requires-clause-builds c κs =
    let F : JoinGraph → Type 0 = λ h. Complete h c.over-stream.result in
    let complete = subst F c.of.ensures c.over-stream.ensures.complete in
    builds_of _ _ (λ p h. (complete.members p).0 h) c.over-stream.ensures.ordered

pub opened-shared-requires-clause-rest : goal.opened-shared-requires-clause-rest
opened-shared-requires-clause-rest c κs =
    let e = c.in_ok-engine.engine in
    let list : e.plan.pairs ≡ c.over-stream.result = ap (λ (p : EnginePlan). p.pairs) c.in_ok-engine.ensures.plan in
    let F : List Pair → Type 0 = IsRest e.plan.pairs (IsKnown 0 e) in
    subst F list (all_rest e.plan.pairs (IsKnown 0 e) (subst Ordered (sym list) c.over-stream.ensures.ordered))

pub returns : goal.returns
returns c =
    let r = c.opened-shared.ensures.running in
    record {
      plan = r.plan;
      free = r.free;
      later = _;
      at = record { left = r.at.left; between = begins_buffer _ _ _ _ _ _ _ r.plan r.at.between };
    }
