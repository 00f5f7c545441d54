-- The entries of a file's bytes are sound.
use Rattle.std.proofs.Common.{◌≡◌, ◌∙◌, ℕ, List, sym, refl, Option, Some, None}
use Rattle.std.specs.Prelude.{All, Ok, Err}
use Rattle.serde_json.specs.Data.{Data}
use Rattle.query_json.specs.declared.entry.Entry.{Entry}
use Rattle.query_json.specs.declared.fault.FileFault.{FileFault}
use Rattle.query_json.specs.declared.fault.FileFault.TheVariants.{NotJson}
use Rattle.query_json.specs.Entries.{entries_of, entries_of_value}
use Rattle.query_json.specs.Sound.{IsEntrySound}
use Rattle.query_json.specs.Walk.{json_of}
use Rattle.query_json.proofs.FirstFaults.{texts_hold}
use Rattle.query_json.proofs.SoundEntries as values

no_entries : (fault : FileFault) (entries : List Entry) → Err fault ≡ Ok entries → All IsEntrySound entries
no_entries fault entries e = absurd cc

pub sound_entries : (bytes : List ℕ) (entries : List Entry) → entries_of bytes ≡ Ok entries → All IsEntrySound entries
sound_entries bytes entries e = by (json_of bytes) refl
  where
    by : (read : Option Data) → json_of bytes ≡ read → All IsEntrySound entries
    by (Some d) is = values.sound_entries d entries (sym ((texts_hold bytes).0 d is) ∙ e)
    by None is = no_entries NotJson entries (sym ((texts_hold bytes).1 is) ∙ e)
