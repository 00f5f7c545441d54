use Rattle.std.proofs.Common.{◌^◌, ◌*◌, ◌<◌, ◌≤◌, get_or, arith, rules}
use Rattle.query_json.proofs.DecimalLaws.{digit_here, digit_is, few_read}
use Rattle.query_json.proofs.walk.decimal.over_tens.Goals as goal

pub overflow_mul-num : goal.overflow_mul-num
overflow_mul-num c =
    let l = c.loop-digit in
    let few = few_read c.args.first c.args.decimals.now l.digit-index l.num l.den c.loop-digit-test.true c.requires.few l.invariant in
    let n : l.num < 10 * 10 ^ 12 = few.1 in
    omega arith

pub overflow_add-num : goal.overflow_add-num
overflow_add-num c =
    let l = c.loop-digit in
    let few = few_read c.args.first c.args.decimals.now l.digit-index l.num l.den c.loop-digit-test.true c.requires.few l.invariant in
    let n : l.num < 10 * 10 ^ 12 = few.1 in
    let next = get_or c.args.decimals.now l.digit-index 0 in
    let here = digit_here c.args.decimals.now l.digit-index next c.loop-digit-test.true (search rules) l.invariant.digits in
    let high : get_or c.args.decimals.now l.digit-index 0 ≤ 57 = (digit_is (get_or c.args.decimals.now l.digit-index 0) here.0).1 in
    omega arith

pub overflow_mul-den : goal.overflow_mul-den
overflow_mul-den c =
    let l = c.loop-digit in
    let few = few_read c.args.first c.args.decimals.now l.digit-index l.num l.den c.loop-digit-test.true c.requires.few l.invariant in
    let n : l.den ≤ 10 ^ 12 = few.0 in
    omega arith
