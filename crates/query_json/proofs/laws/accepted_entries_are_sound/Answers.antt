use Rattle.query_json.proofs.SoundEntries.{sound_entries}
use Rattle.query_json.proofs.laws.accepted_entries_are_sound.Goals as goal

pub returns : goal.returns
returns c = sound_entries
