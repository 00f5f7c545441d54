use Rattle.std.proofs.Common.{◌≤◌, ◌<◌, ◌/◌, ◌^◌, arith}
use Rattle.std.proofs.lemmas.Nat.{le-div}
use Rattle.std.proofs.Math.Pow.{pow_mono}
use Rattle.dpe_base.specs.declared.TheConstants.{N_MAX}
use Rattle.dpe_top.proofs.batch.may_run.Goals as goal

pub returns-clause-some : goal.returns-clause-some
returns-clause-some c =
    let n = c.args.n in
    let low : 2 ^ n ≤ 2 ^ N_MAX = pow_mono {i = n} {j = N_MAX} c.requires.relations in
    let some : 2 ^ 0 ≤ 2 ^ n = pow_mono {i = 0} {j = n} (omega arith) in
    let room : 1 ≤ 8388608 / 2 ^ n = le-div 1 8388608 (2 ^ n) (omega arith) (omega arith) in
    let least = c.min.ensures in
    let workers = c.requires.some in
    omega arith
