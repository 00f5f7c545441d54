use Rattle.std.proofs.Common.{◌≡◌, ◌≤◌, ◌+◌, vec_len, vec_capacity}
use Rattle.memo_table.specs.Seats.{IsSeatOf}
use Rattle.memo_table.proofs.tests.draw_all.Given as goal

abbrev pub invariant-draws : goal.invariant-draws
invariant-draws l = record {
  seat : IsSeatOf l.memo l.seat;
  weight : 1 ≤ l.seat.view.weight;
  allowance : l.count ≤ l.seat.view.allowance + l.counter;
  seen : vec_len l.seen ≡ l.counter;
  room : l.count ≤ vec_capacity l.seen;
}
