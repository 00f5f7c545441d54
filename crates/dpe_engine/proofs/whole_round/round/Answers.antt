use Rattle.std.proofs.Common.{rules, List, sym, ◌∙◌, subst}
use Rattle.std.proofs.lemmas.List.{take_at}
use Rattle.memo_table.specs.Seats.{SeatView}
use Rattle.dpe_engine.specs.Rounds.Crews.{HaveWorked}
use Rattle.dpe_engine.proofs.whole_round.round.Goals as goal

pub returns-clause-worked : goal.returns-clause-worked
returns-clause-worked g c =
    let model = g.M.CostModel.KIND in
    let pairs = c.args.pairs.now in
    let base = c.open_round-base.result in
    let changed : HaveWorked model base pairs c.as_mut_slice.result.now c.for_each_mut.new.s = search rules in
    let F : List SeatView → Type 0 = λ l. HaveWorked model base pairs l c.for_each_mut.new.s in
    let worked : HaveWorked model base pairs c.open_round-base.new.crew.items c.for_each_mut.new.s = subst F c.as_mut_slice.ensures.value changed in
    let G : List SeatView → Type 0 = λ l. HaveWorked model base pairs c.open_round-base.new.crew.items l in
    c.close_round.ensures.worked base c.args.workers pairs c.args.seat.now c.open_round-base.new.crew.items c.open_round-base.ensures.opened
    (subst G (sym (take_at c.for_each_mut.new.s _ _ (changed.size ∙ c.as_mut_slice.ensures.len))) worked)
