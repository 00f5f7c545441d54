-- What the filling of a buffer and the work on a full one leave.
use Rattle.std.specs.Prelude.{◌≡◌, ℕ, ◌+◌, ◌<◌, ◌≤◌, min, Bool, IsTrue, List, [], ◌++◌, length, Contains}
use Rattle.dpe_base.specs.declared.pair.Pair.{Pair}
use Rattle.reorder_buffer.specs.Groups.{groups}
use Rattle.dpe_engine.specs.declared.run.shared.Shared.{Shared}
use Rattle.dpe_engine.specs.declared.run.producer.Producer.{Producer}
use Rattle.dpe_engine.specs.declared.run.consumer.Consumer.{Consumer}
use Rattle.dpe_engine.specs.Running.Between.{IsShared, IsBetween, HasFreeCrew, IsAtBuffer}

-- what is asked to process the buffer
pub record MayWorkBuffer {M : Type 0} (model : ℕ) (shared : Shared M) (consumer : Consumer M) : Type 0 where
  pub plan : IsShared shared
  pub free : HasFreeCrew shared consumer
  pub few : consumer.buffers ≤ consumer.pairs
  pub later : List Pair
  pub at : IsAtBuffer model shared consumer later

-- the pairs of the buffer are processed, by a round for each group
pub record HasWorkedBuffer {M : Type 0} (model : ℕ) (shared : Shared M) (before after : Consumer M) : Type 0 where
  pub between : (later : List Pair) → IsAtBuffer model shared before later → IsBetween model shared (Contains later) after.pairs after.rounds after.seat
  pub counted : after.rounds ≡ before.rounds + length (groups before.full.pairs)
  pub pairs : after.pairs ≡ before.pairs + length before.full.pairs
  pub buffers : after.buffers ≡ before.buffers + min (length before.full.pairs) 1
  pub room : after.full.room ≡ before.full.room
  pub free : HasFreeCrew shared after

-- the buffer has the next run
pub record IsFilled {P : Type 0} (left : P → List Pair) (ended : P → Bool) (before after : Producer P) : Type 0 where
  pub room : after.next.room ≡ before.next.room
  pub fits : length after.next.pairs ≤ after.next.room
  pub taken : left before.stream ≡ after.next.pairs ++ left after.stream
  pub short : length after.next.pairs < before.next.room → (left after.stream ≡ []) × IsTrue (ended after.stream)
