-- What holds of an engine between two rounds, whatever was known before the first.
use Rattle.std.specs.Prelude.{◌≡◌, ℕ, ◌+◌, ◌*◌, ◌^◌, ◌<◌, ◌≤◌, ◌⊎◌, nat_lt, List, [], ◌++◌, filter, length, Contains, vec_capacity}
use Rattle.std.specs.List.{AllPairs}
use Rattle.dpe_base.specs.declared.TheConstants.{N_MAX, WEIGHT, DRAWS, WORKERS_MAX}
use Rattle.dpe_base.specs.declared.pair.Pair.{Pair}
use Rattle.dpe_base.specs.Queries.{relations}
use Rattle.dpe_base.specs.Sets.{union, single}
use Rattle.join_graph.specs.Graphs.{graph_of}
use Rattle.join_tree.specs.Trees.{Builds}
use Rattle.memo_table.specs.Seats.{SeatView, IsSeatOf, BoundsAreMade, Settled}
use Rattle.memo_table.specs.Views.{EachOnceBelow}
use Rattle.reorder_buffer.specs.Groups.{union_size}
use Rattle.dpe_engine.specs.declared.run.shared.Shared.{Shared}
use Rattle.dpe_engine.specs.declared.run.consumer.Consumer.{Consumer}
use Rattle.dpe_engine.specs.Working.{IsMemoOfQuery, IsDone}
use Rattle.dpe_engine.specs.Engines.{MayStandBefore}

-- the pairs whose union has fewer than n relations
abbrev pub below : ℕ → List Pair → List Pair
below n pairs = filter (λ p. nat_lt (union_size p) n) pairs

-- what the workers share; pairs of the memo build each side of its pairs
pub record IsShared {M : Type 0} (shared : Shared M) : Type 0 where
  pub planned : IsMemoOfQuery shared.memo shared.cards
  pub builds : Builds (graph_of shared.memo.query) shared.memo.pairs
  pub some : 1 ≤ shared.workers
  pub few : shared.workers ≤ WORKERS_MAX

-- What the main seat knows once so many pairs are processed, in any order, by so many rounds, and where some are still to
-- come. The union of each pair of the memo is settled, be it by pairs that are processed or because it was known before the
-- first round; or each pair with this union is processed or still to come. The first `pairs_done + workers * rounds_done`
-- tickets are drawn
pub record IsBetween {M : Type 0} (model : ℕ) (shared : Shared M) (to_come : Pair → Type 0) (pairs_done rounds_done : ℕ) (s : SeatView) : Type 0 where
  pub seat : IsSeatOf shared.memo s
  pub weight : s.view.weight ≡ WEIGHT
  pub made : BoundsAreMade model s.view
  pub leaves : (r : ℕ) → r < relations shared.memo.query → Settled model s.view (single r)
  pub given : (p : Pair) → Contains shared.memo.pairs p
      → Settled model s.view (union p.a p.b) ⊎ ((x : Pair) → Contains shared.memo.pairs x → union x.a x.b ≡ union p.a p.b
      → IsDone model shared.memo.query shared.memo.pairs s.view.bounds x ⊎ to_come x)
  pub tickets : EachOnceBelow (pairs_done + shared.workers * rounds_done) s.view.tickets
  pub allowance : s.view.allowance + pairs_done + shared.workers * rounds_done ≡ DRAWS
  pub few : rounds_done ≤ pairs_done

-- these pairs are left once so many are processed: pairs of the memo, of which none builds a side of an earlier one
pub record AreLeft {M : Type 0} (shared : Shared M) (pairs_done : ℕ) (left : List Pair) : Type 0 where
  pub listed : (p : Pair) → Contains left p → Contains shared.memo.pairs p
  pub order : AllPairs MayStandBefore left
  pub few : pairs_done + length left ≤ 4 ^ N_MAX

-- the pair is one of the buffer with a union of n relations or more, or one of those that come later
abbrev pub IsToCome : ℕ → List Pair → List Pair → Pair → Type 0
IsToCome n buffer later p = (Contains buffer p × (n ≤ union_size p)) ⊎ Contains later p

-- no seat is split off, and there is room for one for each worker
pub record HasFreeCrew {M : Type 0} (shared : Shared M) (consumer : Consumer M) : Type 0 where
  pub empty : consumer.crew.items ≡ []
  pub room : shared.workers ≤ vec_capacity consumer.crew

-- the pairs of the buffer are left, and after them the later ones
pub record IsAtBuffer {M : Type 0} (model : ℕ) (shared : Shared M) (consumer : Consumer M) (later : List Pair) : Type 0 where
  pub left : AreLeft shared consumer.pairs (consumer.full.pairs ++ later)
  pub between : IsBetween model shared (Contains (consumer.full.pairs ++ later)) consumer.pairs consumer.rounds consumer.seat

-- the same, but the pairs of the buffer with unions of fewer than `size` relations are processed
pub record IsAtGroup {M : Type 0} (model : ℕ) (shared : Shared M) (size : ℕ) (consumer : Consumer M) (later : List Pair) : Type 0 where
  pub left : AreLeft shared consumer.pairs (consumer.full.pairs ++ later)
  pub between : IsBetween model shared (IsToCome size consumer.full.pairs later) (consumer.pairs + length (below size consumer.full.pairs)) consumer.rounds consumer.seat

-- what is asked to process the group of one size
pub record MayWorkGroup {M : Type 0} (model : ℕ) (shared : Shared M) (size : ℕ) (consumer : Consumer M) : Type 0 where
  pub plan : IsShared shared
  pub free : HasFreeCrew shared consumer
  pub later : List Pair
  pub at : IsAtGroup model shared size consumer later

-- the buffer is the same, and as many pairs and buffers are counted
pub record IsSameBuffer {M : Type 0} (before after : Consumer M) : Type 0 where
  pub contents : after.full.pairs ≡ before.full.pairs
  pub room : after.full.room ≡ before.full.room
  pub pairs : after.pairs ≡ before.pairs
  pub buffers : after.buffers ≡ before.buffers
