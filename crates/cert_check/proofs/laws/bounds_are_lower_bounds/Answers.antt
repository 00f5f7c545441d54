use Rattle.cert_check.proofs.CertificateLaws.{bounds_are_lower_bounds as law}
use Rattle.cert_check.proofs.laws.bounds_are_lower_bounds.Goals as goal

pub returns : goal.returns
returns c = law
