use Rattle.std.proofs.Common.{rules, ◌≡◌, ◌++◌, ◌∷◌, []}
use Rattle.dpe_engine.proofs.Gathers.{gather_begins, gather_more, gather_ends}
use Rattle.dpe_engine.proofs.whole_round.crew.gather.Goals as goal

pub parts-init : goal.parts-init
parts-init g c = record { gathering = gather_begins _ _ _ c.requires.seat c.requires.crew; room = search rules }

pub parts-preserved : goal.parts-preserved
parts-preserved g c =
    let e : c.parts.crew.items ≡ c.pop.new.self.items ++ c.in-Some.part ∷ [] = rw c.in-Some.is at c.pop.ensures.items in
    record { gathering = gather_more _ _ _ _ _ _ _ _ c.parts.invariant.gathering e c.join.ensures.table c.join.ensures.view; room = search rules }

pub returns-clause-gathered : goal.returns-clause-gathered
returns-clause-gathered g c = gather_ends _ _ _ _ _ c.parts.invariant.gathering (search rules)
