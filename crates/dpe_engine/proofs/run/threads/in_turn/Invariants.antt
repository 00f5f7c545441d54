use Rattle.std.proofs.Common.{◌≡◌, ℕ, ◌<◌, ◌≤◌, get_or}
use Rattle.std.specs.Fork.{ChangesAt}
use Rattle.dpe_engine.proofs.run.threads.in_turn.Given as goal

abbrev pub invariant-places : goal.invariant-places
invariant-places g l =
    ((j : ℕ) (d : g.row.T.Denot) → l.k ≤ j → get_or l.s j d ≡ get_or l.initial.s j d)
    × ((j : ℕ) (d : g.row.T.Denot) → j < l.k → ChangesAt g.F.Fn l.f j (get_or l.initial.s j d) (get_or l.s j d))
