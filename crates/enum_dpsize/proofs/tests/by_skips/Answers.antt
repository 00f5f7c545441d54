use Rattle.enum_dpsize.proofs.tests.by_skips.Goals as goal

pub make-requires-2 : goal.make-requires-2
make-requires-2 c = (c.args.graph.now, c.recall.ensures, c.in_ok-parts.ensures.value)
