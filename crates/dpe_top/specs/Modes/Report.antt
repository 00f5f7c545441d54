-- Modes plan, narrow, zigzag and leftdeep: the report of a workload, one entry after the other, in the workload's order.
use Rattle.std.specs.Prelude.{◌≡◌, ℕ, List, [], ◌∷◌, Bool, true, false, if◌then◌else◌}
use Rattle.std.specs.List.{list_any}
use Rattle.dpe_base.specs.Queries.{relations}
use Rattle.dpe_base.specs.Sets.{full}
use Rattle.cost_model.specs.declared.model.ModelKind.{ModelKind}
use Rattle.cost_model.specs.declared.model.ModelKind.TheVariants.{Ops, Cout}
use Rattle.join_graph.specs.Graphs.{graph_of}
use Rattle.query_json.specs.declared.entry.Entry.{Entry}
use Rattle.query_json.specs.declared.entry.Named.{Named}
use Rattle.query_json.specs.declared.entry.Part.{Part}
use Rattle.query_json.specs.declared.entry.Part.TheVariants.{Accepted, Refused}
use Rattle.plan_report.specs.Entries.{PlannedQuery, ReportEntry, planned, refused}
use Rattle.plan_report.specs.Reports.{report_bytes}
use Rattle.dpe_words.specs.declared.choices.Settings.{Settings}
use Rattle.query_json.specs.Entries.{entries_of}
use Rattle.dpe_top.specs.declared.status.Outcome.{Outcome}
use Rattle.dpe_top.specs.declared.status.Outcome.TheVariants.{Done, SomeRefused}
use Rattle.dpe_top.specs.Answers.{Answer, Reading, reading_by}
use Rattle.dpe_top.specs.Lines.{fault_line}
use Rattle.dpe_top.specs.Statistics.{stats_of}
use Rattle.planner.specs.Classes.{IsPlanAmong}
use Rattle.planner.specs.Plans.{IsPairCountIn}
use Rattle.dpe_top.specs.Classes.{class_of}

-- the number of the model in costs and words
abbrev pub model_number : ModelKind → ℕ
model_number Ops = 0
model_number Cout = 1

-- what is said of an accepted query: its plan over all its relations, among all trees or those of the mode's class; how many
-- pairs such trees may have; and statistics where they are asked for
pub record IsPlanned (settings : Settings) (name : List ℕ) (named : Named) (said : PlannedQuery) : Type 0 where
  pub plan : IsPlanAmong (class_of settings.mode) (model_number settings.model) named.query (full (relations named.query)) said.tree
  pub pairs : IsPairCountIn (class_of settings.mode) named.query said.pairs
  pub stats : said.stats ≡ stats_of settings (graph_of named.query)
  pub rest : said ≡ record said { name = name; aliases = named.aliases; kind = model_number settings.model; query = named.query }

abbrev pub IsEntrySaid : Settings → List ℕ → Part → ReportEntry → Type 0
IsEntrySaid settings name (Accepted named) (planned said) = IsPlanned settings name named said
IsEntrySaid settings name (Accepted named) (refused n why) = ⊥
IsEntrySaid settings name (Refused why) (planned said) = ⊥
IsEntrySaid settings name (Refused why) (refused n w) = (n ≡ name) × (w ≡ why)

-- what the report says of the entries, one by one
abbrev pub Says : Settings → List Entry → List ReportEntry → Type 0
Says settings [] [] = Unit {0}
Says settings [] (said ∷ more) = ⊥
Says settings (entry ∷ entries) [] = ⊥
Says settings (entry ∷ entries) (said ∷ more) = IsEntrySaid settings entry.name entry.part said × Says settings entries more

-- the text is the report of the entries, in the format that is asked for
abbrev pub IsReport : Settings → List Entry → List ℕ → Type 0
IsReport settings entries text =
    (said : List ReportEntry) × Says settings entries said × (text ≡ report_bytes settings.format said)

abbrev pub is_refused : Entry → Bool
is_refused entry = elim entry.part [ Accepted named ↦ false | Refused why ↦ true ]

abbrev pub has_refused : List Entry → Bool
has_refused entries = list_any is_refused entries

abbrev pub outcome_of : List Entry → Outcome
outcome_of entries = if has_refused entries then SomeRefused else Done

-- the report, with the outcome of its entries
abbrev pub report : Settings → List Entry → Answer
report settings entries outcome text = (outcome ≡ outcome_of entries) × IsReport settings entries text

-- the report of the workload that the bytes are
abbrev pub report_of_bytes : Settings → Reading
report_of_bytes settings = reading_by entries_of (report settings) fault_line
