use Rattle.memo_table.proofs.seat.MemoSeat.recall.Goals as goal

pub returns-clause-made : goal.returns-clause-made
returns-clause-made g c = rw (← c.self.view_is) c.self.invariant.bounds

pub returns-clause-weight : goal.returns-clause-weight
returns-clause-weight g c = rw (← c.self.view_is) c.self.invariant.weight
