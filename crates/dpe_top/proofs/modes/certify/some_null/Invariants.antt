use Rattle.std.proofs.Common.{◌≡◌, false, take}
use Rattle.plan_report.specs.Certs.Members.{certificates_of}
use Rattle.dpe_top.specs.Modes.Certify.{some_null}
use Rattle.dpe_top.proofs.modes.certify.some_null.Given as goal

abbrev pub invariant-loop-member : goal.invariant-loop-member
invariant-loop-member l = some_null (certificates_of (take l.member-index l.members)) ≡ false
