use Rattle.std.proofs.Common.{refl, arith}
use Rattle.skip_vector.proofs.SmallParts.{four}
use Rattle.skip_vector.proofs.tests.the_single_relations.Goals as goal
use Rattle.dpe_base.specs.Sets as sets

pub make-requires : goal.make-requires
unfolding sets.size lib.Count.ones sets.members_below sets.alone sets.member
make-requires g c = four 1 1 2 4 8 _ _ _ _ c.of_bits.ensures c.of_bits-2.ensures c.of_bits-3.ensures c.of_bits-4.ensures (omega arith) refl refl
