use Rattle.dpe_top.proofs.Checking.{all_checked, given_more, query_at, suits_there}
use Rattle.dpe_top.proofs.modes.check.verdicts_under.Goals as goal

pub entry-entry-requires : goal.entry-entry-requires
entry-entry-requires g c =
    query_at c.args.certs.now.workload c.args.certs.now.certs c.as_slice-members.result.now c.members.i c.requires
    c.as_slice-members.ensures
    c.members-test.true

pub verdict_on-verdict-requires-after_bounds : goal.verdict_on-verdict-requires-after_bounds
verdict_on-verdict-requires-after_bounds g c κs within =
    suits_there c.args.certs.now.workload c.args.certs.now.certs c.as_slice-members.result.now c.members.i c.entry-entry.result.now
    c.index-members-i.result c.requires c.as_slice-members.ensures c.entry-entry.ensures.value c.members-test.true c.index-members-i.is

pub members-preserved : goal.members-preserved
members-preserved g c =
    given_more g.M.CostModel.KIND c.args.certs.now.workload c.args.certs.now.certs c.as_slice-members.result.now c.members.i
    c.members.verdicts
    c.push.new.self c.entry-entry.result.now c.index-members-i.result c.verdict_on-verdict.result c.as_slice-members.ensures
    c.members.invariant
    c.entry-entry.ensures.value c.members-test.true c.index-members-i.is c.verdict_on-verdict.ensures c.in_ok-push.ensures.wrong
    c.in_ok-push.ensures.text

pub returns : goal.returns
returns g c =
    all_checked g.M.CostModel.KIND c.args.certs.now.workload c.args.certs.now.certs c.as_slice-members.result.now c.members.i
    c.members.verdicts
    c.requires c.as_slice-members.ensures c.members.invariant c.members-test.false
