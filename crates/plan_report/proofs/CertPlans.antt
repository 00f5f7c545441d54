-- What is no plan.
use Rattle.std.proofs.Common.{◌≡◌, ◌≢◌, List, [], ◌∷◌, length, Err, refl}
use Rattle.serde_json.specs.Data.{array}
use Rattle.serde_json.specs.View.{items_view}
use Rattle.serde_json.specs.declared.value.Value.{Value}
use Rattle.plan_report.specs.declared.certs.fault.CertFault.TheVariants.{BadCertificates}
use Rattle.plan_report.specs.Certs.Plans.{plan_read}

-- an array that hasn't three items
pub not_three : (vs : List Value) → length vs ≢ 3 → plan_read (array (items_view vs)) ≡ Err BadCertificates
not_three [] h = refl
not_three (a ∷ []) h = refl
not_three (a ∷ b ∷ []) h = refl
not_three (a ∷ b ∷ c ∷ []) h = absurd (h refl)
not_three (a ∷ b ∷ c ∷ d ∷ vs) h = refl
