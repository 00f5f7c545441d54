use Rattle.std.proofs.Common.{arith}
use Rattle.std.proofs.lemmas.Nat.{one_shl}
use Rattle.dpe_engine.proofs.Runs.{room_enough}
use Rattle.dpe_engine.proofs.seeded.room_for.Goals as goal

pub returns-clause-enough : goal.returns-clause-enough
returns-clause-enough c = room_enough c.args.n _ c.args.buffer c.min.result (one_shl c.args.n 64 (let h = c.requires.relations in omega arith)) c.min.ensures
