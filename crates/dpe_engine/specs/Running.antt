-- How far a run is, from buffer to buffer.
pub mod Between
pub mod Buffers
use Rattle.std.specs.Prelude.{◌≡◌, ℕ, ◌+◌, ◌*◌, ◌^◌, ◌<◌, ◌≤◌, ◌⊎◌, Bool, IsTrue, List, [], ◌++◌, length}
use Rattle.dpe_base.specs.declared.TheConstants.{WEIGHT, DRAWS}
use Rattle.dpe_base.specs.declared.pair.Pair.{Pair}
use Rattle.dpe_base.specs.Queries.{relations}
use Rattle.dpe_base.specs.Sets.{single}
use Rattle.memo_table.specs.Seats.{IsSeatOf, Settled}
use Rattle.reorder_buffer.specs.Buffers.{BufferedPairs}
use Rattle.reorder_buffer.specs.Groups.{runs, rounds}
use Rattle.dpe_engine.specs.declared.run.shared.Shared.{Shared}
use Rattle.dpe_engine.specs.declared.run.producer.Producer.{Producer}
use Rattle.dpe_engine.specs.declared.run.consumer.Consumer.{Consumer}
use Rattle.dpe_engine.specs.declared.engine.Solved.{Solved}
use Rattle.dpe_engine.specs.Engines.{EnginePlan, AreLeastWords}
use Rattle.dpe_engine.specs.Running.Between.{IsShared, IsBetween, HasFreeCrew, IsAtBuffer}

-- the query, its list, and what was asked for
abbrev pub plan_of : {M : Type 0} → Shared M → ℕ → EnginePlan
plan_of shared buffer = record { query = shared.memo.query; pairs = shared.memo.pairs; buffer = buffer; workers = shared.workers }

-- An engine before its run, of which no pair is processed. Its buffers have the room that was asked for, or more than there
-- are pairs of sets
pub record IsPrepared {M : Type 0} (model buffer : ℕ) (shared : Shared M) (next : BufferedPairs) (consumer : Consumer M) : Type 0 where
  pub plan : IsShared shared
  pub seat : IsSeatOf shared.memo consumer.seat
  pub weight : consumer.seat.view.weight ≡ WEIGHT
  pub tickets : consumer.seat.view.tickets ≡ []
  pub allowance : consumer.seat.view.allowance ≡ DRAWS
  pub leaves : (r : ℕ) → r < relations shared.memo.query → Settled model consumer.seat.view (single r)
  pub some_room : 1 ≤ next.room
  pub same_room : consumer.full.room ≡ next.room
  pub fits : next.room ≤ buffer
  pub enough : (next.room ≡ buffer) ⊎ (4 ^ relations shared.memo.query < next.room)
  pub free : HasFreeCrew shared consumer
  pub none : (consumer.pairs ≡ 0) × (consumer.buffers ≡ 0) × (consumer.rounds ≡ 0)

-- a run over these pairs has begun: none is processed, and the first of them are in the buffer
pub record HasBegun {M : Type 0} (plan : EnginePlan) (rest : List Pair) (shared : Shared M) (consumer : Consumer M) (coming : List Pair) : Type 0 where
  pub query : shared.memo.query ≡ plan.query
  pub list : shared.memo.pairs ≡ plan.pairs
  pub workers : shared.workers ≡ plan.workers
  pub none : (consumer.pairs ≡ 0) × (consumer.buffers ≡ 0) × (consumer.rounds ≡ 0)
  pub whole : coming ≡ rest
  pub same_runs : runs plan.buffer rest ≡ runs consumer.full.room rest

-- the pairs that are still to be processed
abbrev pub to_come : {P M : Type 0} → (P → List Pair) → Producer P → Consumer M → List Pair
to_come left producer consumer = consumer.full.pairs ++ left producer.stream

-- how far a run is, before the full buffer is processed
pub record IsRunning {P M : Type 0} (model : ℕ) (left : P → List Pair) (ended : P → Bool) (shared : Shared M) (producer : Producer P) (consumer : Consumer M) : Type 0 where
  pub plan : IsShared shared
  pub free : HasFreeCrew shared consumer
  pub few : consumer.buffers ≤ consumer.pairs
  pub at : IsAtBuffer model shared consumer (left producer.stream)
  pub same_room : producer.next.room ≡ consumer.full.room
  pub some_room : 1 ≤ consumer.full.room
  pub fits : length consumer.full.pairs ≤ consumer.full.room
  pub last : length consumer.full.pairs < consumer.full.room → (left producer.stream ≡ []) × IsTrue (ended producer.stream)

-- so many pairs, runs and rounds more are counted as these pairs have
pub record HasCounted {M : Type 0} (before : Consumer M) (pairs : List Pair) (after : Consumer M) : Type 0 where
  pub room : after.full.room ≡ before.full.room
  pub count : after.pairs ≡ before.pairs + length pairs
  pub buffers : after.buffers ≡ before.buffers + length (runs before.full.room pairs)
  pub all_rounds : after.rounds ≡ before.rounds + rounds before.full.room pairs

-- what is counted and what is still to come are together the same
pub record HasSameTotals {M : Type 0} (before : Consumer M) (left : List Pair) (after : Consumer M) (later : List Pair) : Type 0 where
  pub room : after.full.room ≡ before.full.room
  pub count : after.pairs + length later ≡ before.pairs + length left
  pub buffers : after.buffers + length (runs before.full.room later) ≡ before.buffers + length (runs before.full.room left)
  pub all_rounds : after.rounds + rounds before.full.room later ≡ before.rounds + rounds before.full.room left

-- no pair is still to come
pub record HasEnded {M : Type 0} (model : ℕ) (shared : Shared M) (consumer : Consumer M) : Type 0 where
  pub plan : IsShared shared
  pub between : IsBetween model shared (λ p. ⊥) consumer.pairs consumer.rounds consumer.seat

-- the words of the memo, and the counts
pub record IsFinished {M : Type 0} (model : ℕ) (shared : Shared M) (consumer : Consumer M) (solved : Solved) : Type 0 where
  pub size : length solved.words.row ≡ 2 ^ relations shared.memo.query
  pub words : AreLeastWords model shared.memo.query shared.memo.pairs solved.words.row
  pub pairs : solved.pairs ≡ consumer.pairs
  pub drawn : solved.words.drawn ≡ solved.pairs + shared.workers * solved.rounds
  pub buffers : solved.buffers ≡ consumer.buffers
  pub all_rounds : solved.rounds ≡ consumer.rounds
