use Rattle.plan_report.proofs.CertFaults.{named_once}
use Rattle.plan_report.proofs.certs.read.read_certs.Goals as goal

pub returns-clause-named : goal.returns-clause-named
returns-clause-named c = named_once c.args.bytes.now _ c.certs_of_bytes.ensures.file
