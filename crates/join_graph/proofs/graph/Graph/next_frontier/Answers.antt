use Rattle.std.proofs.Common.{◌∙◌, ap, sym}
use Rattle.dpe_base.specs.Sets.{minus}
use Rattle.join_graph.proofs.Growth.{next_frontier_from, no_frontier}
use Rattle.join_graph.proofs.graph.Graph.next_frontier.Goals as goal

pub returns-then-bits-eq0 : goal.returns-then-bits-eq0
returns-then-bits-eq0 c =
    no_frontier c.args.self.now _ c.args.s c.minus-outside.result (c.minus-outside.ensures ∙ ap (minus c.args.s) c.union.ensures) (sym c.bits.ensures ∙ c.if-bits-eq0.true)

pub returns : goal.returns
returns c =
    rw (c.minus-2.ensures, c.minus.ensures)
    (next_frontier_from c.args.self.now c.args.part c.args.more c.args.s c.gathered.result c.minus-outside.result c.requires.frontier c.gathered.ensures (c.minus-outside.ensures ∙ ap (minus c.args.s) c.union.ensures))
