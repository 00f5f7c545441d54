use Rattle.std.proofs.Common.{◌∙◌, sym, refl}
use Rattle.connected_sets.proofs.GrowthLaws.{no_child, calls_last, child_skipped, child_is, fewer}
use Rattle.connected_sets.proofs.growth.next_child.Goals as goal

pub returns-then-bits-eq0-2-clause-none : goal.returns-then-bits-eq0-2-clause-none
returns-then-bits-eq0-2-clause-none c =
    no_child c.args.graph.now c.args.call.now c.requires.0 c.recall.ensures c.requires.1 (sym c.neighbours_outside.ensures ∙ sym c.bits-then-bits-eq0.ensures ∙ c.if-bits-eq0-2.true)

pub returns-then-bits-ne0-clause-some : goal.returns-then-bits-ne0-clause-some
returns-then-bits-ne0-clause-some c =
    child_is c.args.graph.now c.args.call.now c.requires.0 c.scan.last c.in-Some.t c.neighbours_outside-neighbours.result c.recall.ensures c.requires.1
    c.scan.invariant.left c.in-Some.ensures.next c.neighbours_outside-neighbours.ensures (λ e. c.if-bits-ne0.true (c.bits-in-Some.ensures ∙ e))

pub scan-smaller : goal.scan-smaller
scan-smaller c = fewer c.args.call.now.neighbours c.scan.last c.in-Some.t c.in-Some.ensures.next

pub scan-preserved : goal.scan-preserved
scan-preserved c =
    record {
      part = c.in-Some.ensures.next.within;
      left = c.scan.invariant.left
          ∙ child_skipped c.args.graph.now c.args.call.now c.requires.0 c.scan.last c.in-Some.t c.neighbours_outside-neighbours.result c.recall.ensures c.requires.1
          c.in-Some.ensures.next c.neighbours_outside-neighbours.ensures (sym c.bits-in-Some.ensures ∙ c.if-bits-ne0.false);
    }

pub returns-clause-none : goal.returns-clause-none
returns-clause-none c =
    c.scan.invariant.left ∙ calls_last c.args.graph.now c.args.call.now c.scan.last (c.in_default.ensures.last.0 refl)
