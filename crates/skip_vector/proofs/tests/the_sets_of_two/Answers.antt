use Rattle.std.proofs.Common.{refl, arith}
use Rattle.skip_vector.proofs.SmallParts.{six}
use Rattle.skip_vector.proofs.tests.the_sets_of_two.Goals as goal
use Rattle.dpe_base.specs.Sets as sets

pub make-requires : goal.make-requires
unfolding sets.size lib.Count.ones sets.members_below sets.alone sets.member
make-requires g c = six 2 3 5 9 6 10 12 _ _ _ _ _ _ c.of_bits.ensures c.of_bits-2.ensures c.of_bits-3.ensures c.of_bits-4.ensures c.of_bits-5.ensures c.of_bits-6.ensures (omega arith) refl refl
