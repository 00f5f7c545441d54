use Rattle.std.proofs.Common.{◌/◌, ◌-◌, ◌<◌, sym, subst}
use Rattle.query_forms.proofs.Powers.{digits_pushed, ten_some, tens_below}
use Rattle.query_forms.proofs.fraction.push_last_digits.Goals as goal

pub nonzero_div-digit : goal.nonzero_div-digit
nonzero_div-digit c =
    let l = c.digits in
    subst (λ n. 0 < n) (sym (tens_below l.tens l.left l.invariant.0 c.digits-test.true)) (ten_some (l.left - 1))

pub digits-preserved : goal.digits-preserved
digits-preserved c =
    let l = c.digits in
    let down = tens_below l.tens l.left l.invariant.0 c.digits-test.true in (
      down,
      digits_pushed l.left c.args.ratio.num (l.tens / 10) _ _ _ down c.digits-test.true c.in_ok-push_digit.ensures l.invariant.1,
    )
