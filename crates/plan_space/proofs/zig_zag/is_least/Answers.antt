use Rattle.std.proofs.lemmas.Bool.{eqb-true, eq-eqb}
use Rattle.dpe_base.proofs.SetLaws.{has_some}
use Rattle.plan_space.proofs.ZigZagSteps.{least_by_code}
use Rattle.plan_space.proofs.zig_zag.is_least.Goals as goal

pub returns-in-Some : goal.returns-in-Some
returns-in-Some c = (
  λ t. (least_by_code c.args.set c.args.r c.in-Some.least c.requires.known c.requires.has c.in-Some.ensures).0 (eqb-true _ _ t),
  λ e. eq-eqb _ _ ((least_by_code c.args.set c.args.r c.in-Some.least c.requires.known c.requires.has c.in-Some.ensures).1 e),
)

pub returns-in-None : goal.returns-in-None
returns-in-None c = absurd (has_some c.args.set c.args.r c.requires.has c.in-None.ensures)
