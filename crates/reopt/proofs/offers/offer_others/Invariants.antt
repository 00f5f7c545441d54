use Rattle.reopt.specs.Offers.{HasOffered}
use Rattle.reopt.proofs.offers.offer_others.Given as goal

abbrev pub invariant-sets : goal.invariant-sets
invariant-sets g l = HasOffered l.r l.words l.fn.engine l.engine l.bits
