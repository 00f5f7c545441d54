use Rattle.std.proofs.Common.{◌∙◌, ap, arith}
use Rattle.workload_gen.specs.Draws.{extra_join}
use Rattle.workload_gen.proofs.Lists.{kept_present, ended_present, some_present, none_present}
use Rattle.workload_gen.proofs.draws.joins_tried.Goals as goal
use Rattle.workload_gen.proofs.draws.joins_tried.Goals.{in-Some+in_ok-push, in_default}

pub joins-preserved : goal.joins-preserved
joins-preserved c = kept_present (λ k. extra_join c.args.n) c.joins.counter c.args.count _ _ _ _ c.extra_join.result _
    (elim c.match-extra_join.branch [
      | in-Some+in_ok-push w ↦ ap (λ v. v.items) w.joins-is ∙ w.in_ok-push.ensures.items ∙ some_present _ _ _ w.in-Some.is
      | in_default w ↦ ap (λ v. v.items) w.joins-is ∙ none_present _ _ w.in_default.is
    ])
    c.extra_join.ensures c.joins-test.true c.joins.invariant

pub returns : goal.returns
returns c = ended_present (λ k. extra_join c.args.n) c.joins.counter c.args.count _ _ _ (omega arith) c.joins.invariant
