use Rattle.query_forms.proofs.WorkloadFaults.{workloads_are_json}
use Rattle.query_forms.proofs.laws.workloads_of_changes_are_json.Goals as goal

pub returns : goal.returns
returns c = workloads_are_json
