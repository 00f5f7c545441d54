use Rattle.std.proofs.Common.{ap}
use Rattle.serde_json.specs.View.{view}
use Rattle.dpe_top.specs.Modes.Certify.{file_of}
use Rattle.dpe_top.proofs.Certifying.{certified_by}
use Rattle.dpe_top.proofs.modes.certify.certificates.Goals as goal

pub returns : goal.returns
returns g c =
    certified_by c.args.planning.now (file_of c.args.file.now) c.in_ok-members.members.items c.as_slice-certs.result.now
    c.settings.result.now.model
    (view c.in_ok-workload.workload) c.outcome_of-outcome.result c.in_ok-text.text.items c.in_ok-members.ensures
    c.as_slice-certs.ensures.value
    (ap (λ s. s.model) c.settings.ensures) c.in_ok-workload.ensures.value c.outcome_of-outcome.ensures c.in_ok-text.ensures
