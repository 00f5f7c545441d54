-- Mode certify: for each query of a workload a certificate that its plan costs as little as any.
use Rattle.std.specs.Prelude.{◌≡◌, ◌≤◌, ◌<◌, ◌^◌, ℕ, List, [], ◌∷◌, ◌++◌, Bool, true, false, if◌then◌else◌, Option, Some, None, Result, Ok}
use Rattle.std.specs.List.{list_any}
use Rattle.serde_json.specs.Data.{Data}
use Rattle.serde_json.specs.View.{view}
use Rattle.serde_json.specs.Written.{compact_text}
use Rattle.dpe_base.specs.Queries.{JoinQuery, relations}
use Rattle.dpe_base.specs.Sets.{full}
use Rattle.join_graph.specs.Graphs.{Connected, graph_of}
use Rattle.join_tree.specs.Trees.{Plan}
use Rattle.cert_check.specs.Certificates.{bound_of}
use Rattle.cert_check.specs.Laws.{AreLeastCosts}
use Rattle.query_json.specs.declared.entry.Entry.{Entry}
use Rattle.query_json.specs.declared.entry.Part.{Part}
use Rattle.query_json.specs.declared.entry.Part.TheVariants.{Accepted, Refused}
use Rattle.query_json.specs.declared.fault.FileFault.{FileFault}
use Rattle.query_json.specs.Answer.{◌>>=◌}
use Rattle.query_json.specs.Entries.{entries_of_value}
use Rattle.query_json.specs.Walk.{json_at}
use Rattle.query_forms.specs.Forms.{rewritten_file}
use Rattle.plan_report.specs.Certs.{file_written, most_certified}
use Rattle.plan_report.specs.Certs.Members.{Certificate}
use Rattle.plan_report.specs.Texts.{newline}
use Rattle.dpe_words.specs.declared.choices.Settings.{Settings}
use Rattle.dpe_top.specs.declared.modes.certify.ReadFile.{ReadFile}
use Rattle.dpe_top.specs.declared.status.Outcome.{Outcome}
use Rattle.dpe_top.specs.declared.status.Outcome.TheVariants.{Done, SomeRefused}
use Rattle.dpe_top.specs.Answers.{Answer, Reading, reading_by}
use Rattle.dpe_top.specs.Lines.{fault_line}
use Rattle.dpe_top.specs.Modes.Report.{model_number}

-- a workload file: its value and its entries
pub record WorkloadFile : Type 0 where
  pub value : Data
  pub entries : List Entry

-- the file that a value of the program is
abbrev pub file_of : ReadFile → WorkloadFile
file_of f = record { value = view f.value; entries = f.workload }

unfoldable pub workload_file : List ℕ → Result WorkloadFile FileFault
workload_file bytes = do
  d ← json_at bytes
  entries ← entries_of_value d
  Ok (record { value = d; entries = entries })

-- the plan over all relations, the least cost of a legal tree over each connected set, and 0 for each other set
pub record Certifies (model : ℕ) (q : JoinQuery) (c : Certificate) : Type 0 where
  pub plan : Plan model q (full (relations q)) c.tree
  pub least : AreLeastCosts model q c.bounds
  pub others : (s : ℕ) → s < 2 ^ relations q → (Connected (graph_of q) s → ⊥) → bound_of c.bounds s ≡ 0

-- a query of so few relations has a certificate, and every other one null
abbrev pub IsMemberOf : ℕ → JoinQuery → Option Certificate → Type 0
IsMemberOf model q None = most_certified < relations q
IsMemberOf model q (Some c) = (relations q ≤ most_certified) × Certifies model q c

-- a refused query has null
abbrev pub IsMember : ℕ → Part → Option Certificate → Type 0
IsMember model (Accepted named) member = IsMemberOf model named.query member
IsMember model (Refused why) member = member ≡ None

-- the members of the queries, one by one
abbrev pub AreMembers : ℕ → List Entry → List (Option Certificate) → Type 0
AreMembers model [] [] = Unit {0}
AreMembers model (e ∷ es) (c ∷ cs) = IsMember model e.part c × AreMembers model es cs
AreMembers model es cs = ⊥

abbrev pub is_null : Option Certificate → Bool
is_null None = true
is_null (Some c) = false

abbrev pub some_null : List (Option Certificate) → Bool
some_null = list_any is_null

abbrev pub certify_outcome : Bool → Outcome
certify_outcome null = if null then SomeRefused else Done

-- the certificate file of the workload, which is written in version 2
abbrev pub certified : Settings → WorkloadFile → Answer
certified settings file outcome text =
    (certs : List (Option Certificate)) × AreMembers (model_number settings.model) file.entries certs
    × (outcome ≡ certify_outcome (some_null certs))
    × (text ≡ compact_text (file_written settings.model (rewritten_file file.value) certs) ++ newline)

-- the certificate file of the workload that the bytes are
abbrev pub certificates_of_bytes : Settings → Reading
certificates_of_bytes settings = reading_by workload_file (certified settings) fault_line
