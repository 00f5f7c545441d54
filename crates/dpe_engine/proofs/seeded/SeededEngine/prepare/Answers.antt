use Rattle.std.proofs.Common.{rules}
use Rattle.dpe_engine.proofs.Ends.{shared_of, leaves_of}
use Rattle.dpe_engine.proofs.seeded.SeededEngine.prepare.Goals as goal

pub make-requires-after_bounds : goal.make-requires-after_bounds
make-requires-after_bounds g c = λ κs within p h. c.requires.builds.within p h

pub invariant_of-result : goal.invariant_of-result
invariant_of-result g c =
    let m = c.in_ok-memo.ensures in
    let room = c.room_for-room.ensures in
    record {
      plan = shared_of _ _ _ m.named.0 m.named.1 c.n-n.ensures.valid c.requires.builds c.in_ok-cards.ensures c.requires.workers.0 c.requires.workers.1;
      seat = m.seat;
      weight = m.counts.0;
      tickets = m.counts.2;
      allowance = m.counts.3;
      leaves = leaves_of _ _ _ _ m.named.0 m.leaves;
      some_room = search rules;
      same_room = search rules;
      fits = search rules;
      enough = search rules;
      free = search rules;
      none = search rules;
    }
