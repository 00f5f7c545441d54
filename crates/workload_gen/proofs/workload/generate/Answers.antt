use Rattle.workload_gen.proofs.Entries.{accepted}
use Rattle.workload_gen.proofs.workload.generate.Goals as goal

pub returns-clause-accepted : goal.returns-clause-accepted
returns-clause-accepted c = accepted c.args.number c.text_of.result c.text_of.ensures
