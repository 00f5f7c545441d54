use Rattle.join_graph.specs.Graphs.{graph_of}
use Rattle.join_graph.proofs.GraphLaws.{connected_single}
use Rattle.plan_report.proofs.measured.of_scan.Goals as goal

pub rows_once-requires-clause-some : goal.rows_once-requires-clause-some
rows_once-requires-clause-some c = rw c.single-set.ensures (connected_single (graph_of c.args.query.now) c.args.r c.requires).some

pub rows_once-requires-clause-within : goal.rows_once-requires-clause-within
rows_once-requires-clause-within c = rw c.single-set.ensures (connected_single (graph_of c.args.query.now) c.args.r c.requires).within
