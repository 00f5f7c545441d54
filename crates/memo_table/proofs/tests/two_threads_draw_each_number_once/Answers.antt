use Rattle.std.proofs.Common.{subst}
use Rattle.join_graph.specs.Graphs.{JoinGraph, Pairs}
use Rattle.memo_table.proofs.tests.two_threads_draw_each_number_once.Goals as goal

pub make-requires-after_bounds : goal.make-requires-after_bounds
make-requires-after_bounds g c κs p has =
    let F : JoinGraph → Type 0 = λ h. Pairs h p in subst F c.of-graph.ensures ((c.over-stream.ensures.complete.members p).0 has)
