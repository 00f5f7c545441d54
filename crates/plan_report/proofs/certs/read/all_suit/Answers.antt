use Rattle.std.proofs.Common.{◌∙◌, sym, arith}
use Rattle.plan_report.proofs.CertMembers.{other_length, suit_more, suited, unsuited}
use Rattle.plan_report.proofs.certs.read.all_suit.Goals as goal

pub returns-then-members-len : goal.returns-then-members-len
returns-then-members-len c =
    other_length c.args.workload.now c.args.members.now (λ same. omega (arith, same, c.len.ensures, c.if-members-len.true))

pub returns-then-not-suits : goal.returns-then-not-suits
returns-then-not-suits c =
    unsuited _ _ _
    (sym c.members.invariant
    ∙ suit_more c.args.workload.now c.args.members.now c.members.i c.entry.result.now c.index-members-i.result c.entry.ensures.value
    c.members-test.true
    c.index-members-i.is)
    (sym c.suits.ensures ∙ c.if-not-suits.true)

pub members-preserved : goal.members-preserved
members-preserved c =
    sym
    (suit_more c.args.workload.now c.args.members.now c.members.i c.entry.result.now c.index-members-i.result c.entry.ensures.value
    c.members-test.true
    c.index-members-i.is
    ∙ suited _ _ (sym c.suits.ensures ∙ c.if-not-suits.false))
    ∙ c.members.invariant
