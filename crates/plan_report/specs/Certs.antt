-- The certificate file: a workload, a cost model, and for each query a certificate or null.
pub mod Faults
pub mod Members
pub mod Plans
use Rattle.std.specs.Prelude.{◌≡◌, ◌≤◌, ℕ, ◌==◌, ◌^◌, ◌&&◌, nat_le, List, [], ◌∷◌, length, map, Bool, true, false, if◌then◌else◌, Option, Some, None, option_and_then, Result, Ok, Err, codes}
use Rattle.std.specs.List.{All}
use Rattle.std.specs.Str.{bytes_eq}
use Rattle.serde_json.specs.Data.{Data, string, array, object, member, no_members, depth}
use Rattle.serde_json.specs.Find.{get, as_str, as_array}
use Rattle.serde_json.specs.Read.{max_depth}
use Rattle.serde_json.specs.View.{items_of}
use Rattle.dpe_base.specs.Queries.{JoinQuery, relations}
use Rattle.cost_model.specs.declared.model.ModelKind.{ModelKind}
use Rattle.cost_model.specs.declared.model.ModelKind.TheVariants.{Ops, Cout}
use Rattle.query_json.specs.declared.entry.Entry.{Entry}
use Rattle.query_json.specs.declared.entry.Part.{Part}
use Rattle.query_json.specs.declared.entry.Part.TheVariants.{Accepted, Refused}
use Rattle.query_json.specs.Answer.{◌>>=◌}
use Rattle.query_json.specs.Entries.{entries_of_value}
use Rattle.query_json.specs.Walk.{json_of}
use Rattle.plan_report.specs.declared.certs.cert.Certs.{Certs}
use Rattle.plan_report.specs.declared.certs.fault.CertFault.{CertFault}
use Rattle.plan_report.specs.declared.certs.fault.CertFault.TheVariants.{BadCertificates, NotJson}
use Rattle.plan_report.specs.Certs.Faults.{or_bad, or_fault, of_workload}
use Rattle.plan_report.specs.Certs.Plans.{HasSmallNumbers}
use Rattle.plan_report.specs.Certs.Members.{Certificate, certificates_of, each_item, member_read, member_written}
use Rattle.plan_report.specs.Names.{model_name}

-- what a certificate file holds
pub record CertFile : Type 0 where
  pub model : ModelKind
  pub workload : List Entry
  pub certs : List (Option Certificate)

-- the file with this workload, as it is written
abbrev pub file_written : ModelKind → Data → List (Option Certificate) → Data
file_written model workload certs =
    object (member (codes "certificates") (array (items_of (map member_written certs)))
    (member (codes "model") (string (model_name model)) (member (codes "workload") workload no_members)))

-- the file that a value of the program is
abbrev pub file_of : Certs → CertFile
file_of c = record { model = c.model; workload = c.workload; certs = certificates_of c.certs }

abbrev pub model_named : List ℕ → Option ModelKind
model_named s = if bytes_eq s (model_name Ops) then Some Ops else (if bytes_eq s (model_name Cout) then Some Cout else None)

-- the most relations of a query that may have a certificate
abbrev pub most_certified : ℕ
most_certified = 12

-- a certificate may stand for an accepted query of that many relations, with a bound for each of their sets
abbrev pub suits_query : JoinQuery → Certificate → Bool
suits_query q c = nat_le (relations q) most_certified && (length c.bounds == 2 ^ relations q)

abbrev pub suits_part : Part → Certificate → Bool
suits_part (Accepted named) c = suits_query named.query c
suits_part (Refused why) c = false

-- null may stand for each query
abbrev pub suits : Part → Option Certificate → Bool
suits part None = true
suits part (Some c) = suits_part part c

-- there is one member for each query, which may stand for it
abbrev pub all_suit : List Entry → List (Option Certificate) → Bool
all_suit [] [] = true
all_suit [] (c ∷ cs) = false
all_suit (e ∷ es) [] = false
all_suit (e ∷ es) (c ∷ cs) = suits e.part c && all_suit es cs

-- what the bytes of a certificate file hold, or the first fault other than want of memory: the members are looked at after the workload
unfoldable pub certs_read : List ℕ → Result CertFile CertFault
certs_read bytes = do
  root ← or_fault NotJson (json_of bytes)
  model ← or_bad (option_and_then model_named (option_and_then as_str (get (codes "model") root)))
  members ← or_bad (option_and_then as_array (get (codes "certificates") root))
  workload ← or_bad (get (codes "workload") root)
  entries ← of_workload (entries_of_value workload)
  certs ← each_item member_read members
  if all_suit entries certs then Ok (record { model = model; workload = entries; certs = certs }) else Err BadCertificates

abbrev pub IsReadable : Option Certificate → Type 0
IsReadable None = Unit {0}
IsReadable (Some c) = HasSmallNumbers c.tree

-- the text of a file reads as what was written: where the workload has no fault, each member may stand for its query, and neither the
-- numbers of a plan nor the levels of the file are more than is read
abbrev pub ReadsBack : ModelKind → Data → List (Option Certificate) → List ℕ → Type 0
ReadsBack model workload certs text =
    (entries : List Entry) → entries_of_value workload ≡ Ok entries → all_suit entries certs ≡ true → All IsReadable certs
    → depth (file_written model workload certs) ≤ max_depth
    → certs_read text ≡ Ok (record { model = model; workload = entries; certs = certs })
