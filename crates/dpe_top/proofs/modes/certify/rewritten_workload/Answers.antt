use Rattle.serde_json.specs.View.{view}
use Rattle.dpe_top.proofs.Certifying.{same_file}
use Rattle.dpe_top.proofs.modes.certify.rewritten_workload.Goals as goal

pub returns-in-Ok-clause-value : goal.returns-in-Ok-clause-value
returns-in-Ok-clause-value c =
    same_file (view c.args.file.now.value) c.args.file.now.workload (view c.in-Ok.workload) c.requires c.in-Ok.ensures.value
