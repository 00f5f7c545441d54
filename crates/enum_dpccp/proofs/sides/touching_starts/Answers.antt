use Rattle.std.proofs.Common.{ℕ, ap, subst, sym, ◌∙◌}
use Rattle.dpe_base.specs.Sets.{Has, Within, full}
use Rattle.connected_sets.proofs.GrowthLaws.{within_empty}
use Rattle.connected_sets.proofs.SetSteps.{start_known}
use Rattle.enum_dpccp.specs.Dpccp.{second_sides_from, starts}
use Rattle.enum_dpccp.specs.Touching.{touching_sides}
use Rattle.enum_dpccp.proofs.SideSteps.{starts_known}
use Rattle.enum_dpccp.proofs.TouchingSteps.{not_both, start_in, start_of, started_by, touched_alone, touched_never}
use Rattle.enum_dpccp.proofs.sides.touching_starts.Goals as goal

pub returns-then-has-clause-sides : goal.returns-then-has-clause-sides
returns-then-has-clause-sides c =
    started_by c.args.graph.now c.recall.ensures c.args.a c.args.r c.args.x c.neighbours_outside-starts.result c.requires.excluded c.neighbours_outside-starts.ensures

pub returns-then-has-clause-known : goal.returns-then-has-clause-known
returns-then-has-clause-known c =
    starts_known c.args.graph.now c.args.a c.args.x c.neighbours_outside-starts.result c.recall.ensures c.neighbours_outside-starts.ensures

pub returns-then-not-stands_alone-clause-sides : goal.returns-then-not-stands_alone-clause-sides
returns-then-not-stands_alone-clause-sides c =
    started_by c.args.graph.now c.recall.ensures c.args.a c.args.r c.args.x c.neighbours_outside-starts.result c.requires.excluded c.neighbours_outside-starts.ensures

pub returns-then-not-stands_alone-clause-known : goal.returns-then-not-stands_alone-clause-known
returns-then-not-stands_alone-clause-known c =
    starts_known c.args.graph.now c.args.a c.args.x c.neighbours_outside-starts.result c.recall.ensures c.neighbours_outside-starts.ensures

pub returns-then-has-2-clause-sides : goal.returns-then-has-2-clause-sides
returns-then-has-2-clause-sides c =
    let start : Has (starts c.args.graph.now c.args.a) c.args.r =
    start_of c.args.graph.now c.args.a c.args.x c.neighbours_outside-starts.result c.args.r c.requires.excluded c.neighbours_outside-starts.ensures (c.has-2.ensures.0 c.if-has-2.true) in
    ap (λ (s : ℕ). touching_sides c.args.r c.args.a (second_sides_from c.args.graph.now c.args.x s)) c.single.ensures
    ∙ touched_alone c.args.graph.now c.recall.ensures c.args.a c.args.r c.args.x c.requires.relation (λ h. not_both c.has.result (c.has.ensures.1 h) c.if-has.false)
    (c.stands_alone.ensures.0 c.if-not-stands_alone.false) c.requires.excluded start

pub returns-then-has-2-clause-known : goal.returns-then-has-2-clause-known
returns-then-has-2-clause-known c = start_known c.args.graph.now c.args.r c.single.result c.single.ensures c.requires.relation

pub returns-else-has-2-clause-sides : goal.returns-else-has-2-clause-sides
returns-else-has-2-clause-sides c =
    ap (λ (s : ℕ). touching_sides c.args.r c.args.a (second_sides_from c.args.graph.now c.args.x s)) c.empty.ensures
    ∙ touched_never c.args.graph.now c.recall.ensures c.args.a c.args.r c.args.x (λ h. not_both c.has.result (c.has.ensures.1 h) c.if-has.false)
    (c.stands_alone.ensures.0 c.if-not-stands_alone.false) c.requires.excluded
    (λ h.
    not_both c.has-2.result
    (c.has-2.ensures.1 (start_in c.args.graph.now c.args.a c.args.x c.neighbours_outside-starts.result c.args.r c.requires.excluded c.neighbours_outside-starts.ensures h))
    c.if-has-2.false)

pub returns-else-has-2-clause-known : goal.returns-else-has-2-clause-known
returns-else-has-2-clause-known c = subst (λ (s : ℕ). Within s (full c.args.graph.now.n)) (sym c.empty.ensures) (within_empty (full c.args.graph.now.n))
