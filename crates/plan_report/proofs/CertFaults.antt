-- The fault of a certificate file names each cause in one way.
use Rattle.std.proofs.Common.{ℕ, Bool, true, false, Option, Some, None, Result, Ok, Err, List, subst}
use Rattle.std.specs.Prelude.{IfErr, codes, if◌then◌else◌, option_and_then, option_map}
use Rattle.serde_json.specs.Data.{Data, null, boolean, number, string, array, object, Items, no_items, item}
use Rattle.serde_json.specs.Find.{as_array, as_number, as_str, as_u64, get}
use Rattle.join_tree.specs.Trees.{leaf}
use Rattle.query_json.specs.declared.fault.FileFault.{FileFault}
use Rattle.query_json.specs.Answer.{◌>>=◌}
use Rattle.query_json.specs.Entries.{entries_of_value}
use Rattle.query_json.specs.Walk.{as_whole, json_of}
use Rattle.plan_report.specs.declared.certs.cert.Certs.{Certs}
use Rattle.plan_report.specs.declared.certs.fault.CertFault.{CertFault}
use Rattle.plan_report.specs.declared.certs.fault.CertFault.TheVariants.{BadCertificates, NoMemory, NotJson, Workload}
use Rattle.plan_report.specs.Certs.{CertFile, all_suit, certs_read, file_of, model_named}
use Rattle.plan_report.specs.Certs.Faults.{GivesBy, HasOneName, of_workload, or_bad, or_fault}
use Rattle.plan_report.specs.Certs.Members.{bound_read, certificate_read, each_item, member_read}
use Rattle.plan_report.specs.Certs.Plans.{most_operator, most_relation, plan_read}
use Rattle.plan_report.proofs.WorkloadFaults.{FailsByValue, workload}

-- the fault, if there is one, has one name
abbrev FailsByName : {X : Type 0} → Result X CertFault → Type 0
FailsByName (Ok x) = Unit {0}
FailsByName (Err fault) = HasOneName fault

then_by_name : {X Y : Type 0} (r : Result X CertFault) (rest : X → Result Y CertFault) → FailsByName r → ((x : X) → FailsByName (rest x))
    → FailsByName (r >>= rest)
then_by_name (Ok x) rest here later = later x
then_by_name (Err fault) rest here later = here

bad : {X : Type 0} (o : Option X) → FailsByName (or_bad o)
bad None = tt
bad (Some x) = tt

not_json : {X : Type 0} (o : Option X) → FailsByName (or_fault NotJson o)
not_json None = tt
not_json (Some x) = tt

of_value : {X : Type 0} (r : Result X FileFault) → FailsByValue r → FailsByName (of_workload r)
of_value (Ok x) h = tt
of_value (Err fault) h = h

each : {X : Type 0} (f : Data → Result X CertFault) (ds : Items) → ((d : Data) → FailsByName (f d)) → FailsByName (each_item f ds)
each f no_items h = tt
each f (item d ds) h = then_by_name (f d) _ (h d) (λ x. then_by_name (each_item f ds) _ (each f ds h) (λ xs. tt))

plan : (d : Data) → FailsByName (plan_read d)
plan null = tt
plan (boolean b) = tt
plan (number n) = bad (option_map leaf (as_whole most_relation (number n)))
plan (string s) = tt
plan (object ms) = tt
plan (array no_items) = tt
plan (array (item op no_items)) = tt
plan (array (item op (item left no_items))) = tt
plan (array (item op (item left (item right (item more rest))))) = tt
plan (array (item op (item left (item right no_items)))) =
    then_by_name (or_bad (as_whole most_operator op)) _ (bad (as_whole most_operator op)) (λ o.
    then_by_name (plan_read left) _ (plan left) (λ l. then_by_name (plan_read right) _ (plan right) (λ r. tt)))

certificate : (d : Data) → FailsByName (certificate_read d)
unfolding certificate_read
certificate d =
    then_by_name (or_bad (option_and_then as_array (get (codes "bounds") d))) _ (bad (option_and_then as_array (get (codes "bounds") d))) (λ list.
    then_by_name (each_item bound_read list) _ (each bound_read list (λ b. bad (option_and_then as_u64 (as_number b)))) (λ bounds.
    then_by_name (or_bad (get (codes "plan") d)) _ (bad (get (codes "plan") d)) (λ found.
    then_by_name (plan_read found) _ (plan found) (λ tree. tt))))

some_certificate : (d : Data) → FailsByName (certificate_read d >>= λ c. Ok (Some c))
some_certificate d = then_by_name (certificate_read d) _ (certificate d) (λ c. tt)

member : (d : Data) → FailsByName (member_read d)
member null = tt
member (boolean b) = some_certificate (boolean b)
member (number n) = some_certificate (number n)
member (string s) = some_certificate (string s)
member (array ds) = some_certificate (array ds)
member (object ms) = some_certificate (object ms)

suited : (b : Bool) (file : CertFile) → FailsByName (if b then Ok file else Err BadCertificates)
suited true file = tt
suited false file = tt

read : (bytes : List ℕ) → FailsByName (certs_read bytes)
unfolding certs_read
read bytes =
    then_by_name (or_fault NotJson (json_of bytes)) _ (not_json (json_of bytes)) (λ root.
    then_by_name (or_bad (option_and_then model_named (option_and_then as_str (get (codes "model") root)))) _
    (bad (option_and_then model_named (option_and_then as_str (get (codes "model") root)))) (λ model.
    then_by_name (or_bad (option_and_then as_array (get (codes "certificates") root))) _
    (bad (option_and_then as_array (get (codes "certificates") root))) (λ members.
    then_by_name (or_bad (get (codes "workload") root)) _ (bad (get (codes "workload") root)) (λ found.
    then_by_name (of_workload (entries_of_value found)) _ (of_value (entries_of_value found) (workload found)) (λ entries.
    then_by_name (each_item member_read members) _ (each member_read members member) (λ certs.
    suited (all_suit entries certs) (record { model = model; workload = entries; certs = certs })))))))

-- what was read fails as the definition does
pub named_once : (bytes : List ℕ) (r : Result Certs CertFault) → GivesBy file_of r (certs_read bytes) → IfErr r HasOneName
named_once bytes r said = by r (certs_read bytes) said (read bytes)
  where
    by : (r : Result Certs CertFault) (file : Result CertFile CertFault) → GivesBy file_of r file → FailsByName file → IfErr r HasOneName
    by (Ok c) file said h = tt
    by (Err NotJson) file said h = tt
    by (Err BadCertificates) file said h = tt
    by (Err NoMemory) file said h = tt
    by (Err (Workload fault)) file said h = subst FailsByName said h
