use Rattle.std.proofs.Common.{◌∙◌, sym}
use Rattle.dpe_top.proofs.Certifying.{null_at, some_more}
use Rattle.dpe_top.proofs.modes.certify.some_null.Goals as goal

pub returns-then-is_null : goal.returns-then-is_null
returns-then-is_null c =
    null_at c.args.members.now c.loop-member.member-index c.member-item.result c.loop-member-test.true c.member-item.is
    (sym c.is_null.ensures ∙ c.if-is_null.true)

pub loop-member-preserved : goal.loop-member-preserved
loop-member-preserved c =
    some_more c.args.members.now c.loop-member.member-index c.member-item.result c.loop-member-test.true c.member-item.is
    c.loop-member.invariant
    (sym c.is_null.ensures ∙ c.if-is_null.false)
