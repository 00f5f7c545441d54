use Rattle.std.proofs.Common.{◌∙◌, arith}
use Rattle.query_forms.proofs.Powers.{exponent_behind, tens_fit, tens_up}
use Rattle.query_forms.proofs.fraction.exponent_of.Goals as goal

pub overflow_mul-tens : goal.overflow_mul-tens
overflow_mul-tens c =
    let fits = tens_fit c.loop-exponent.tens c.loop-exponent.exponent c.loop-exponent.invariant.0 c.loop-exponent-test.true in
    omega (arith, fits)

pub loop-exponent-preserved : goal.loop-exponent-preserved
loop-exponent-preserved c =
    let l = c.loop-exponent in (
      tens_up l.tens l.exponent l.invariant.0,
      exponent_behind c.args.power l.tens l.exponent l.invariant.0 c.loop-exponent-test.true c.if-tens-power.false ∙ l.invariant.1,
    )
