use Rattle.workload_gen.proofs.Entries.{every_sample}
use Rattle.workload_gen.proofs.laws.every_sample_holds_eight_queries.Goals as goal

pub returns : goal.returns
returns c = every_sample
