-- A plan in a certificate file: a relation's number, or the operator's number and the plans of the left and the right side.
use Rattle.std.specs.Prelude.{◌≤◌, ℕ, option_map, Result, Ok, Err}
use Rattle.serde_json.specs.Data.{Data, number, array, Items, item, no_items}
use Rattle.join_tree.specs.Trees.{JoinTree, leaf, join}
use Rattle.query_json.specs.Answer.{◌>>=◌}
use Rattle.query_json.specs.Walk.{as_whole}
use Rattle.plan_report.specs.declared.certs.fault.CertFault.{CertFault}
use Rattle.plan_report.specs.declared.certs.fault.CertFault.TheVariants.{BadCertificates}
use Rattle.plan_report.specs.Certs.Faults.{or_bad}
use Rattle.plan_report.specs.Json.{whole}

-- as it is written
abbrev pub plan_written : JoinTree → Data
plan_written (leaf r) = whole r
plan_written (join op left right) = array (item (whole op) (item (plan_written left) (item (plan_written right) no_items)))

-- the greatest numbers of a relation and of an operator that are read
abbrev pub most_relation : ℕ
most_relation = 31

abbrev pub most_operator : ℕ
most_operator = 255

-- as it is read
abbrev pub plan_read : Data → Result JoinTree CertFault
plan_read (number n) = or_bad (option_map leaf (as_whole most_relation (number n)))
plan_read (array (item op (item left (item right no_items)))) = do
  o ← or_bad (as_whole most_operator op)
  l ← plan_read left
  r ← plan_read right
  Ok (join o l r)
plan_read d = Err BadCertificates

-- its numbers are small enough to be read
abbrev pub HasSmallNumbers : JoinTree → Type 0
HasSmallNumbers (leaf r) = r ≤ most_relation
HasSmallNumbers (join op left right) = (op ≤ most_operator) × HasSmallNumbers left × HasSmallNumbers right
