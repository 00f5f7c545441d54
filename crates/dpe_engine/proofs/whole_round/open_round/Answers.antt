use Rattle.std.proofs.Common.{ap}
use Rattle.memo_table.specs.declared.view.View.{View}
use Rattle.memo_table.specs.Seats.{SeatView}
use Rattle.dpe_engine.specs.Rounds.{MayWorkRound}
use Rattle.dpe_engine.proofs.Splits.{crew_ready}
use Rattle.dpe_engine.proofs.Rounds.{may_still}
use Rattle.dpe_engine.proofs.whole_round.open_round.Goals as goal

pub returns-clause-opened : goal.returns-clause-opened
returns-clause-opened g c =
    let e = c.drawn-base.ensures in
    let first : SeatView = c.drawn-base.new.seat in
    let m : MayWorkRound g.M.CostModel.KIND c.args.memo.now c.args.workers c.args.pairs.now first = may_still _ _ _ _ _ _ c.requires.may e.table e.view in
    record {
      first = first;
      looked = e.view;
      some = c.requires.may.some;
      weight = c.requires.may.weight;
      known = e.all c.requires.may.weight;
      reached = e.floor;
      split = c.split_off.ensures.split;
      ready = crew_ready _ _ _ _ _ _ _ _ m (ap (λ (v : View). v.floor) e.view) c.split_off.ensures.split;
    }
