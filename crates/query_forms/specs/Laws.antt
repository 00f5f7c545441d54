-- What holds between a file and the same file rewritten.
use Rattle.std.specs.Prelude.{◌≡◌, ◌↔◌, ℕ, List, Ok, Err}
use Rattle.serde_json.specs.Data.{Data}
use Rattle.query_json.specs.declared.entry.Entry.{Entry}
use Rattle.query_json.specs.declared.fault.FileFault.{FileFault}
use Rattle.query_json.specs.declared.fault.FileFault.TheVariants.{NoMemory, NotJson}
use Rattle.query_json.specs.Entries.{entries_of, entries_of_value}
use Rattle.query_forms.specs.declared.changes.ChangeFault.TheVariants.{Workload}
use Rattle.query_forms.specs.Changes.{changed_of}
use Rattle.query_forms.specs.Rewriting.{rewritten, rewritten_text}

-- a value without a fault has none after it was rewritten, and the same entries
abbrev pub RewrittenValuesHoldTheSame : Type 0
RewrittenValuesHoldTheSame = (d new : Data) → rewritten d ≡ Ok new → (entries : List Entry) × (entries_of_value d ≡ Ok entries) × (entries_of_value new ≡ Ok entries)

-- rewriting a value that was rewritten changes nothing
abbrev pub RewritingAgainChangesNothing : Type 0
RewritingAgainChangesNothing = (d new : Data) → rewritten d ≡ Ok new → rewritten new ≡ Ok new

-- every text without a fault can be rewritten, and what it becomes has no fault and the same entries
abbrev pub RewrittenTextsHoldTheSame : Type 0
RewrittenTextsHoldTheSame =
    (bytes : List ℕ) (entries : List Entry) → entries_of bytes ≡ Ok entries
    → (text : List ℕ) × (rewritten_text bytes ≡ Ok text) × (entries_of text ≡ Ok entries)

-- rewriting a text that was rewritten changes nothing
abbrev pub RewritingTextsAgainChangesNothing : Type 0
RewritingTextsAgainChangesNothing = (bytes text : List ℕ) → rewritten_text bytes ≡ Ok text → rewritten_text text ≡ Ok text

-- a text has the same faults whether it is read or rewritten
abbrev pub RewritingHasTheFaultsOfReading : Type 0
RewritingHasTheFaultsOfReading = (bytes : List ℕ) (why : FileFault) → (rewritten_text bytes ≡ Err why) ↔ (entries_of bytes ≡ Err why)

-- the workload of a file of changes is never refused as a text that isn't JSON, nor for want of memory
abbrev pub WorkloadsOfChangesAreJson : Type 0
WorkloadsOfChangesAreJson = (bytes : List ℕ) → (changed_of bytes ≡ Err (Workload NotJson) → ⊥) × (changed_of bytes ≡ Err (Workload NoMemory) → ⊥)
