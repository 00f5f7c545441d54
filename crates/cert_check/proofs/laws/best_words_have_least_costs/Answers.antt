use Rattle.cert_check.proofs.CertificateLaws.{best_words_have_least_costs as law}
use Rattle.cert_check.proofs.laws.best_words_have_least_costs.Goals as goal

pub returns : goal.returns
returns c = law
