use Rattle.std.proofs.Common.{◌≡◌, vec_capacity}
use Rattle.dpe_engine.proofs.Gathers.{IsGathering}
use Rattle.dpe_engine.proofs.whole_round.crew.gather.Given as goal

abbrev pub invariant-parts : goal.invariant-parts
invariant-parts g l = record {
  gathering : IsGathering l.memo l.fn.seat l.fn.crew.items l.seat l.crew.items;
  room : vec_capacity l.crew ≡ vec_capacity l.fn.crew;
}

abbrev pub decreases-parts : goal.decreases-parts
decreases-parts g l = goal.left-parts g l
