use Rattle.std.proofs.Common.{◌^◌, ap, arith}
use Rattle.std.proofs.lemmas.Nat.{one_shl}
use Rattle.dpe_base.specs.Queries.{relations}
use Rattle.dpe_base.proofs.SizeLaws.{full_below}
use Rattle.cert_check.proofs.KnownSides.{number_within}
use Rattle.cert_check.proofs.known_rows.KnownRows.of.Goals as goal

pub rows_if_connected-requires-clause-within : goal.rows_if_connected-requires-clause-within
rows_if_connected-requires-clause-within c =
    rw c.of_bits.ensures
    (number_within c.loop-s.s (relations c.args.query.now)
    (omega (arith, c.min-sets.ensures, one_shl c.n.result 64 (omega (arith, c.n.ensures.value, c.n.ensures.valid.few)), ap (λ n. 2 ^ n) c.n.ensures.value)))

pub returns-clause-table : goal.returns-clause-table
returns-clause-table c =
    λ s l w. c.loop-s.invariant.1 s
    (omega (
      arith,
      l,
      full_below s (relations c.args.query.now) w,
      c.min-sets.ensures,
      one_shl c.n.result 64 (omega (arith, c.n.ensures.value, c.n.ensures.valid.few)),
      ap (λ n. 2 ^ n) c.n.ensures.value,
      c.loop-s.invariant.0,
    ))
