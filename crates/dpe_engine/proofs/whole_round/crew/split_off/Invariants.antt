use Rattle.std.proofs.Common.{◌≡◌, vec_capacity}
use Rattle.dpe_engine.specs.Rounds.Crews.{IsSplit}
use Rattle.dpe_engine.proofs.whole_round.crew.split_off.Given as goal

abbrev pub invariant-workers : goal.invariant-workers
invariant-workers g l = record {
  split : IsSplit l.memo l.fn.seat l.seat l.crew.items l.counter l.draws;
  room : vec_capacity l.crew ≡ vec_capacity l.fn.crew;
}
