-- Mode check: a verdict on each certificate of a file, by the model that the file names.
use Rattle.std.specs.Prelude.{◌≡◌, ℕ, List, [], ◌∷◌, ◌++◌, Bool, true, false, if◌then◌else◌, Option, Some, None, codes, decimal}
use Rattle.std.specs.List.{list_any}
use Rattle.dpe_base.specs.Queries.{JoinQuery}
use Rattle.join_tree.specs.Trees.{cost}
use Rattle.cert_check.specs.Certificates.{IsCertificate}
use Rattle.query_json.specs.declared.entry.Entry.{Entry}
use Rattle.query_json.specs.declared.entry.Part.{Part}
use Rattle.query_json.specs.declared.entry.Part.TheVariants.{Accepted, Refused}
use Rattle.plan_report.specs.Certs.{CertFile, certs_read}
use Rattle.plan_report.specs.Certs.Members.{Certificate}
use Rattle.plan_report.specs.Texts.{newline, query_line}
use Rattle.dpe_top.specs.declared.modes.check.Verdict.{Verdict}
use Rattle.dpe_top.specs.declared.modes.check.Verdict.TheVariants.{Optimal, Wrong, NoCertificate}
use Rattle.dpe_top.specs.declared.status.Outcome.{Outcome}
use Rattle.dpe_top.specs.declared.status.Outcome.TheVariants.{Done, SomeRefused}
use Rattle.dpe_top.specs.Answers.{Answer, Reading, reading_by}
use Rattle.dpe_top.specs.Lines.{cert_fault_line}
use Rattle.dpe_top.specs.Modes.Report.{model_number}

-- the verdict on a query's certificate: that its plan costs as little as any, and so much, or that the two are no certificate
abbrev pub IsVerdictOf : ℕ → JoinQuery → Certificate → Verdict → Type 0
IsVerdictOf model q c (Optimal total) = IsCertificate model q c.tree c.bounds × (total ≡ cost model q c.tree)
IsVerdictOf model q c Wrong = IsCertificate model q c.tree c.bounds → ⊥
IsVerdictOf model q c NoCertificate = ⊥

-- null is no certificate, and a refused query has none
abbrev pub IsVerdict : ℕ → Part → Option Certificate → Verdict → Type 0
IsVerdict model part None verdict = verdict ≡ NoCertificate
IsVerdict model (Accepted named) (Some c) verdict = IsVerdictOf model named.query c verdict
IsVerdict model (Refused why) (Some c) verdict = ⊥

-- the verdicts on the queries' members, one by one
abbrev pub AreVerdicts : ℕ → List Entry → List (Option Certificate) → List Verdict → Type 0
AreVerdicts model [] [] [] = Unit {0}
AreVerdicts model (e ∷ es) (c ∷ cs) (v ∷ vs) = IsVerdict model e.part c v × AreVerdicts model es cs vs
AreVerdicts model es cs vs = ⊥

abbrev pub verdict_text : Verdict → List ℕ
verdict_text (Optimal total) = codes "optimal cost " ++ decimal total
verdict_text Wrong = codes "wrong"
verdict_text NoCertificate = codes "none"

-- the line of the query, and that of the verdict
abbrev pub verdict_lines : List ℕ → Verdict → List ℕ
verdict_lines name verdict = query_line name ++ (codes "verdict " ++ (verdict_text verdict ++ newline))

abbrev pub verdicts_text : List Entry → List Verdict → List ℕ
verdicts_text [] vs = []
verdicts_text (e ∷ es) [] = []
verdicts_text (e ∷ es) (v ∷ vs) = verdict_lines e.name v ++ verdicts_text es vs

abbrev pub is_wrong : Verdict → Bool
is_wrong (Optimal total) = false
is_wrong Wrong = true
is_wrong NoCertificate = false

abbrev pub some_wrong : List Verdict → Bool
some_wrong = list_any is_wrong

abbrev pub verdict_outcome : Bool → Outcome
verdict_outcome wrong = if wrong then SomeRefused else Done

-- the verdicts on what the file holds
abbrev pub checked : CertFile → Answer
checked file outcome text =
    (verdicts : List Verdict) × AreVerdicts (model_number file.model) file.workload file.certs verdicts
    × (outcome ≡ verdict_outcome (some_wrong verdicts)) × (text ≡ verdicts_text file.workload verdicts)

-- the verdicts on the certificate file that the bytes are
abbrev pub verdicts_of_bytes : Reading
verdicts_of_bytes = reading_by certs_read checked cert_fault_line
