use Rattle.dpe_top.proofs.Certifying.{member_more}
use Rattle.dpe_top.proofs.planning.Planning.members_under.Goals as goal

pub entries-preserved : goal.entries-preserved
entries-preserved g c =
    member_more g.M.CostModel.KIND c.args.workload.now c.entries.members.items c.push.new.self.items c.entries.i c.entry.result.now
    c.in_ok-member.member c.entries.invariant c.entry.ensures.value c.in_ok-member.ensures c.in_ok-push.ensures.items
