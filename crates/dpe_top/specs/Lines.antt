-- The lines that are written in place of a report.
use Rattle.std.specs.Prelude.{ℕ, List, [], ◌++◌, codes, decimal}
use Rattle.query_json.specs.declared.TheConstants.{QUERIES_MAX, TABLES_MAX}
use Rattle.query_json.specs.declared.fault.FileFault.{FileFault}
use Rattle.query_json.specs.declared.fault.FileFault.TheVariants.{NotJson, Shape, TooManyTables, TooManyQueries, DuplicateTable, NoMemory}
use Rattle.query_json.specs.Texts.{path_of}
use Rattle.plan_report.specs.declared.certs.fault.CertFault.{CertFault}
use Rattle.plan_report.specs.declared.certs.fault.CertFault.TheVariants as cert
use Rattle.plan_report.specs.Texts.{newline}
use Rattle.query_forms.specs.declared.changes.ChangeFault.{ChangeFault}
use Rattle.query_forms.specs.declared.changes.ChangeFault.TheVariants as change

-- a file's fault in words; want of memory is none
abbrev pub fault_text : FileFault → List ℕ
fault_text NotJson = codes "not JSON"
fault_text (Shape place) = codes "bad shape at " ++ path_of place
fault_text TooManyTables = codes "more than " ++ (decimal TABLES_MAX ++ codes " tables")
fault_text TooManyQueries = codes "more than " ++ (decimal QUERIES_MAX ++ codes " queries")
fault_text (DuplicateTable name) = codes "table " ++ (name ++ codes " twice")
fault_text NoMemory = []

unfoldable pub fault_line : FileFault → List ℕ
fault_line fault = codes "input: " ++ (fault_text fault ++ newline)

unfoldable pub bad_certificates_line : List ℕ
bad_certificates_line = codes "input: bad certificates" ++ newline

-- the line of a certificate file's fault: that of its workload, where it has one
abbrev pub cert_fault_line : CertFault → List ℕ
cert_fault_line cert.NotJson = fault_line NotJson
cert_fault_line cert.BadCertificates = bad_certificates_line
cert_fault_line (cert.Workload fault) = fault_line fault
cert_fault_line cert.NoMemory = fault_line NoMemory

unfoldable pub bad_changes_line : List ℕ
bad_changes_line = codes "input: bad changes" ++ newline

unfoldable pub unknown_table_line : ℕ → List ℕ
unknown_table_line j = codes "input: change " ++ (decimal j ++ (codes " names no table" ++ newline))

-- the line of the fault of a file of changes: that of its workload, where it has one
abbrev pub change_fault_line : ChangeFault → List ℕ
change_fault_line change.NotJson = fault_line NotJson
change_fault_line change.BadChanges = bad_changes_line
change_fault_line (change.Workload fault) = fault_line fault
change_fault_line (change.UnknownTable j) = unknown_table_line j
change_fault_line change.NoMemory = fault_line NoMemory

unfoldable pub too_long_line : List ℕ
too_long_line = codes "input: more than 8388608 bytes" ++ newline
