use Rattle.std.proofs.Common.{◌^◌, refl, ap, arith}
use Rattle.std.proofs.lemmas.Bool.{iff_false, false≢true}
use Rattle.std.proofs.lemmas.Nat.{one_shl}
use Rattle.dpe_base.specs.Queries.{relations}
use Rattle.dpe_base.specs.Sets.{full, union}
use Rattle.dpe_base.proofs.SetLaws.{union_within}
use Rattle.dpe_base.proofs.SizeLaws.{full_below}
use Rattle.cert_check.proofs.KnownSides.{number_within}
use Rattle.cert_check.proofs.check.pairs_bounded.Goals as goal

pub union_bounded-requires-clause-within : goal.union_bounded-requires-clause-within
union_bounded-requires-clause-within g c κs within =
    rw c.of_bits.ensures
    (number_within c.loop-s.s (relations c.args.query.now)
    (omega (arith, one_shl c.n-n.result 32 (omega (arith, c.n-n.ensures.value, c.n-n.ensures.valid.few)), ap (λ n. 2 ^ n) c.n-n.ensures.value)))

pub returns-then-not-union_bounded : goal.returns-then-not-union_bounded
returns-then-not-union_bounded g c =
    (λ t. absurd (false≢true t), λ all. absurd (iff_false c.union_bounded.ensures c.if-not-union_bounded.true (λ p pair over. all p pair)))

pub returns : goal.returns
returns g c = (
  λ _ p pair. c.loop-s.invariant p pair
      (omega (
        arith,
        full_below (union p.a p.b) (relations c.args.query.now) (union_within p.a p.b (full (relations c.args.query.now)) pair.first.within pair.second.within),
        one_shl c.n-n.result 32 (omega (arith, c.n-n.ensures.value, c.n-n.ensures.valid.few)),
        ap (λ n. 2 ^ n) c.n-n.ensures.value,
        c.loop-s-test.false,
      )),
  λ _. refl,
)
