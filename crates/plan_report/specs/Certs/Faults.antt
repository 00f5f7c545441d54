-- The answers of reading a certificate file: the first fault that is found.
use Rattle.std.specs.Prelude.{◌≡◌, Option, Some, None, Result, Ok, Err}
use Rattle.query_json.specs.declared.fault.FileFault.{FileFault}
use Rattle.query_json.specs.declared.fault.FileFault.TheVariants as file
use Rattle.plan_report.specs.declared.certs.fault.CertFault.{CertFault}
use Rattle.plan_report.specs.declared.certs.fault.CertFault.TheVariants.{NotJson, BadCertificates, Workload, NoMemory}

abbrev pub or_fault : {X : Type 0} → CertFault → Option X → Result X CertFault
or_fault e None = Err e
or_fault e (Some x) = Ok x

abbrev pub or_bad : {X : Type 0} → Option X → Result X CertFault
or_bad = or_fault BadCertificates

-- a fault of the workload is one of the file
abbrev pub of_workload : {X : Type 0} → Result X FileFault → Result X CertFault
of_workload (Ok x) = Ok x
of_workload (Err e) = Err (Workload e)

-- The answer is what the definition says of the file, unless memory runs out.
abbrev pub Fails : {X : Type 0} → CertFault → Result X CertFault → Type 0
Fails NoMemory said = Unit {0}
Fails e said = said ≡ Err e

-- the same of an answer that may have a value, which is seen by view
abbrev pub GivesBy : {X Y : Type 0} → (X → Y) → Result X CertFault → Result Y CertFault → Type 0
GivesBy view (Ok x) said = said ≡ Ok (view x)
GivesBy view (Err e) said = Fails e said

-- the same of a value that is seen as it is
abbrev pub Gives : {X : Type 0} → Result X CertFault → Result X CertFault → Type 0
Gives = GivesBy (λ x. x)

-- a value may have this fault: its bytes were read, and want of memory says nothing of it
abbrev pub IsFaultOfValue : FileFault → Type 0
IsFaultOfValue file.NotJson = ⊥
IsFaultOfValue file.NoMemory = ⊥
IsFaultOfValue fault = Unit {0}

-- each cause has one name: what a workload's own fault could say of bytes and of memory, the file's fault says
abbrev pub HasOneName : CertFault → Type 0
HasOneName (Workload fault) = IsFaultOfValue fault
HasOneName fault = Unit {0}
