-- Bytes that hold eight queries, none of which is refused.
use Rattle.std.specs.Prelude.{◌≡◌, List, length, All, Result, Ok, Err}
use Rattle.query_json.specs.declared.fault.FileFault.{FileFault}
use Rattle.query_json.specs.declared.entry.Entry.{Entry}
use Rattle.query_json.specs.declared.entry.Part.{Part}
use Rattle.query_json.specs.declared.entry.Part.TheVariants.{Accepted, Refused}

abbrev pub IsAccepted : Part → Type 0
IsAccepted (Accepted named) = Unit {0}
IsAccepted (Refused why) = ⊥

-- there is no fault, and each of the eight queries is accepted
abbrev pub HoldsEightQueries : Result (List Entry) FileFault → Type 0
HoldsEightQueries (Ok entries) = (length entries ≡ 8) × All (λ e. IsAccepted e.part) entries
HoldsEightQueries (Err fault) = ⊥
