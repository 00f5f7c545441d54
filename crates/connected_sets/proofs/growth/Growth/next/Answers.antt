use Rattle.std.proofs.Common.{◌∙◌, sym, ap, ◌++◌, ◌∷◌, ℕ}
use Rattle.connected_sets.specs.Growth.{calling_left, giving_left}
use Rattle.connected_sets.proofs.GrowthLaws.{call, giving_next}
use Rattle.connected_sets.proofs.growth.Growth.next.Goals as goal

pub returns-clause-set : goal.returns-clause-set
returns-clause-set c =
    let w = c.prepare.new.self in
    sym c.prepare.ensures.left
    ∙ ap (λ xs. xs ++ calling_left c.args.graph.now w.calling.items) (giving_next c.args.graph.now w.giving c.in_ok-t.t c.in_ok-t.ensures.next)
    ∙ ap (λ (s : ℕ). s ∷ (giving_left c.args.graph.now (call w.giving.base w.giving.neighbours w.giving.excluded c.in_ok-t.t) ++ calling_left c.args.graph.now w.calling.items)) (sym c.union.ensures)
