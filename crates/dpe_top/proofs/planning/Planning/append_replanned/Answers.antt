use Rattle.dpe_top.proofs.Replanning.{all_can}
use Rattle.dpe_top.proofs.planning.Planning.append_replanned.Goals as goal

pub append_query-requires-clause-made : goal.append_query-requires-clause-made
append_query-requires-clause-made g c κs within =
    all_can c.args.entry.now.part c.in-Accepted.named c.args.place c.args.changes.now c.in-Accepted.is c.requires.within
