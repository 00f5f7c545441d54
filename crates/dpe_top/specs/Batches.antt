-- What is found for the entries of a workload before the report is made.
use Rattle.std.specs.Prelude.{◌≡◌, ◌<◌, ℕ, List, length, slice_index_or, Option, Some, None}
use Rattle.std.specs.List.{slice_get}
use Rattle.dpe_base.specs.Queries.{JoinQuery}
use Rattle.query_json.specs.declared.entry.Entry.{Entry}
use Rattle.query_json.specs.declared.entry.Part.{Part}
use Rattle.query_json.specs.declared.entry.Part.TheVariants.{Accepted, Refused}
use Rattle.planner.specs.declared.planning.Planned.{Planned}
use Rattle.planner.specs.Plans.{IsPlanOf}
use Rattle.dpe_words.specs.declared.choices.Settings.{Settings}
use Rattle.dpe_top.specs.Statistics.{options_with}

-- the plan of the query by the settings, with whatever number of workers it was found
abbrev pub IsPlanBy : Settings → ℕ → JoinQuery → Planned → Type 0
IsPlanBy settings model q found = (workers : ℕ) × IsPlanOf model (options_with settings workers) q found

-- the plan of an accepted entry, or nothing
abbrev pub IsFoundFor : Settings → ℕ → Part → Option Planned → Type 0
IsFoundFor settings model part None = Unit {0}
IsFoundFor settings model (Accepted named) (Some found) = IsPlanBy settings model named.query found
IsFoundFor settings model (Refused why) (Some found) = ⊥

-- each place is that of an entry
abbrev pub AreFound : Settings → ℕ → List Entry → List (Option Planned) → Type 0
AreFound settings model entries found =
    (k : ℕ) (entry : Entry) (default : Option Planned)
    → slice_get entries k ≡ Some entry → k < length found → IsFoundFor settings model entry.part (slice_index_or found k default)
