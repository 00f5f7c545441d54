use Rattle.cert_check.proofs.CertificateLaws.{certificates_convince as law}
use Rattle.cert_check.proofs.laws.certificates_convince.Goals as goal

pub returns : goal.returns
returns c = law
