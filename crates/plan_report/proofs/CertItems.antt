-- Reading the items of an array one after the other, as a loop does.
use Rattle.std.proofs.Common.{List, ◌++◌, Result, Ok}
use Rattle.query_json.specs.Answer.{◌>>=◌}
use Rattle.plan_report.specs.declared.certs.fault.CertFault.{CertFault}

-- what was read before, and what is still read
abbrev pub behind : {X : Type 0} → List X → Result (List X) CertFault → Result (List X) CertFault
behind front said = said >>= λ xs. Ok (front ++ xs)
