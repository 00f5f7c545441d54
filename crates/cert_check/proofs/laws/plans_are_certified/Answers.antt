use Rattle.cert_check.proofs.CertificateLaws.{plans_are_certified as law}
use Rattle.cert_check.proofs.laws.plans_are_certified.Goals as goal

pub returns : goal.returns
returns c = law
