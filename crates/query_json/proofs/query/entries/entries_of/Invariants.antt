use Rattle.std.proofs.Common.{◌≡◌, map, take, All}
use Rattle.query_json.specs.Entries.{entry_of}
use Rattle.query_json.specs.Sound.{IsEntrySound}
use Rattle.query_json.proofs.query.entries.entries_of.Given as goal

abbrev pub invariant-loop-query : goal.invariant-loop-query
invariant-loop-query l = record { made : l.entries ≡ map (entry_of l.tables) (take l.query-index l.queries); sound : All IsEntrySound l.entries }
