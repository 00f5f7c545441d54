use Rattle.dpe_engine.proofs.Ends.{builds_of}
use Rattle.dpe_engine.proofs.engine.Engine.prepare.Goals as goal

pub prepare-requires-clause-builds : goal.prepare-requires-clause-builds
prepare-requires-clause-builds g c κs within = builds_of _ _ c.requires.within c.requires.ordered
