-- What is certified is confirmed.
use Rattle.std.proofs.Common.{◌≡◌, ◌||◌, ℕ, List, [], ◌∷◌, Bool, true, false, Option, Some, None, All, refl, ap}
use Rattle.std.proofs.lemmas.List.Elements.{All-head, All-tail}
use Rattle.join_tree.specs.Trees.{cost}
use Rattle.cert_check.specs.Certificates.{IsCertificate}
use Rattle.cert_check.proofs.CertificateLaws.{plans_are_certified}
use Rattle.query_json.specs.declared.entry.Entry.{Entry}
use Rattle.query_json.specs.declared.entry.Named.{Named}
use Rattle.query_json.specs.declared.entry.Part.{Part}
use Rattle.query_json.specs.declared.entry.Part.TheVariants.{Accepted, Refused}
use Rattle.query_json.specs.Sound.{IsEntrySound, IsPartSound, IsSound}
use Rattle.plan_report.specs.Certs.Members.{Certificate}
use Rattle.dpe_top.specs.declared.modes.check.Verdict.{Verdict}
use Rattle.dpe_top.specs.declared.modes.check.Verdict.TheVariants.{Optimal, Wrong, NoCertificate}
use Rattle.dpe_top.specs.Modes.Certify.{AreMembers, Certifies, IsMember}
use Rattle.dpe_top.specs.Modes.Check.{AreVerdicts, IsVerdict, IsVerdictOf, is_wrong, some_wrong}

-- the verdict on a certificate of a query
pub certified_is_optimal : (model : ℕ) (named : Named) (c : Certificate) (verdict : Verdict) → IsSound named → Certifies model named.query c
    → IsVerdict model (Accepted named) (Some c) verdict → verdict ≡ Optimal (cost model named.query c.tree)
certified_is_optimal model named c verdict sound is said = by verdict said
  where
    cert : IsCertificate model named.query c.tree c.bounds
    cert = plans_are_certified model named.query c.tree c.bounds sound.valid is.least is.plan

    by : (v : Verdict) → IsVerdictOf model named.query c v → v ≡ Optimal (cost model named.query c.tree)
    by (Optimal total) said = ap Optimal said.1
    by Wrong said = absurd (said cert)
    by NoCertificate said = absurd said

member_not_wrong : (model : ℕ) (part : Part) (member : Option Certificate) (verdict : Verdict) → IsPartSound part
    → IsMember model part member
    → IsVerdict model part member verdict → is_wrong verdict ≡ false
member_not_wrong model (Accepted named) None verdict sound is said = ap is_wrong said
member_not_wrong model (Accepted named) (Some c) verdict sound is said =
    ap is_wrong (certified_is_optimal model named c verdict sound is.1 said)
member_not_wrong model (Refused why) None verdict sound is said = ap is_wrong said
member_not_wrong model (Refused why) (Some c) verdict sound is said = absurd said

neither : (a b : Bool) → a ≡ false → b ≡ false → (a || b) ≡ false
neither false b off later = later
neither true b off later = absurd cc

-- the verdicts on the members of a workload
pub none_is_wrong : (model : ℕ) (entries : List Entry) (certs : List (Option Certificate)) (verdicts : List Verdict)
    → All IsEntrySound entries
    → AreMembers model entries certs → AreVerdicts model entries certs verdicts → some_wrong verdicts ≡ false
none_is_wrong model [] [] [] sound are said = refl
none_is_wrong model [] [] (v ∷ vs) sound are said = absurd said
none_is_wrong model [] (c ∷ cs) vs sound are said = absurd are
none_is_wrong model (e ∷ es) [] vs sound are said = absurd are
none_is_wrong model (e ∷ es) (c ∷ cs) [] sound are said = absurd said
none_is_wrong model (e ∷ es) (c ∷ cs) (v ∷ vs) sound are said =
    neither (is_wrong v) (some_wrong vs) (member_not_wrong model e.part c v (All-head IsEntrySound e es sound) are.0 said.0)
    (none_is_wrong model es cs vs (All-tail IsEntrySound e es sound) are.1 said.1)
