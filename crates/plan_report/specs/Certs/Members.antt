-- A member of a certificate file: null, or an object with the bounds of all sets of relations, each at the set's number, and the plan.
use Rattle.std.specs.Prelude.{ℕ, List, [], ◌∷◌, map, Option, Some, None, option_map, option_and_then, Result, Ok, codes}
use Rattle.serde_json.specs.Data.{Data, null, array, object, member, no_members, Items, item, no_items}
use Rattle.serde_json.specs.Find.{get, as_number, as_u64, as_array}
use Rattle.serde_json.specs.View.{items_of}
use Rattle.join_tree.specs.Trees.{JoinTree}
use Rattle.join_tree.specs.TreeOf.{tree_of}
use Rattle.query_json.specs.Answer.{◌>>=◌}
use Rattle.plan_report.specs.declared.certs.cert.Cert.{Cert}
use Rattle.plan_report.specs.declared.certs.fault.CertFault.{CertFault}
use Rattle.plan_report.specs.Certs.Faults.{or_bad}
use Rattle.plan_report.specs.Certs.Plans.{plan_read, plan_written}
use Rattle.plan_report.specs.Json.{whole}

-- a plan, and a bound for each set of relations
pub record Certificate : Type 0 where
  pub tree : JoinTree
  pub bounds : List ℕ

-- the certificate that a value of the program is
abbrev pub certificate_of : Cert → Certificate
certificate_of c = record { tree = tree_of c.tree; bounds = c.bounds }

abbrev pub certificates_of : List (Option Cert) → List (Option Certificate)
certificates_of = map (option_map certificate_of)

-- as it is written
abbrev pub bounds_written : List ℕ → Data
bounds_written bounds = array (items_of (map whole bounds))

abbrev pub member_written : Option Certificate → Data
member_written None = null
member_written (Some c) =
    object (member (codes "bounds") (bounds_written c.bounds) (member (codes "plan") (plan_written c.tree) no_members))

-- as it is read
abbrev pub each_item : {X : Type 0} → (Data → Result X CertFault) → Items → Result (List X) CertFault
each_item f no_items = Ok []
each_item f (item d ds) = f d >>= λ x. each_item f ds >>= λ xs. Ok (x ∷ xs)

abbrev pub bound_read : Data → Result ℕ CertFault
bound_read d = or_bad (option_and_then as_u64 (as_number d))

unfoldable pub certificate_read : Data → Result Certificate CertFault
certificate_read d = do
  list ← or_bad (option_and_then as_array (get (codes "bounds") d))
  bounds ← each_item bound_read list
  plan ← or_bad (get (codes "plan") d)
  tree ← plan_read plan
  Ok (record { tree = tree; bounds = bounds })

abbrev pub member_read : Data → Result (Option Certificate) CertFault
member_read null = Ok None
member_read d = certificate_read d >>= λ c. Ok (Some c)
