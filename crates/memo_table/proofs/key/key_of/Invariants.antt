use Rattle.memo_table.specs.Making.{space_of}
use Rattle.memo_table.proofs.key.key_of.Given as goal

abbrev pub ghosts-key_by : goal.ghosts-key_by
ghosts-key_by g a = record { named = space_of a._query.now (g.P.PairStream.left a._stream.now) }
