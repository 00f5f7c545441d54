-- What is written for the words and the bytes, and the status.
use Rattle.std.specs.Prelude.{◌≡◌, ◌+◌, ◌≤◌, ◌⊎◌, ℕ, Bool, true, false, List, length, nat_lt, Option, Some, None}
use Rattle.std.specs.Io.KnownBytes.{Appends, Consumes, IsAtEnd}
use Rattle.io_edge.specs.Causes.{Rose}
use Rattle.dpe_words.specs.declared.choices.Settings.{Settings}
use Rattle.dpe_words.specs.Line.{settings_of}
use Rattle.dpe_words.specs.Usage.{usage_line}
use Rattle.dpe_top.specs.declared.status.Status.{Status}
use Rattle.dpe_top.specs.declared.status.Status.TheVariants as status
use Rattle.dpe_top.specs.declared.status.Outcome.{Outcome}
use Rattle.dpe_top.specs.declared.status.Outcome.TheVariants.{Done, SomeRefused, Usage, Input}
use Rattle.dpe_top.specs.declared.status.Failure.{Failure}
use Rattle.dpe_top.specs.declared.status.Failure.TheVariants.{ReadFault, NoMemory}
use Rattle.dpe_top.specs.Lines.{too_long_line}
use Rattle.dpe_top.specs.Answers.{Answer, Reading, Task, at_once, reads, line}
use Rattle.dpe_top.specs.Modes.{task_by}

-- ---- what the words ask for, and its answer

abbrev pub task_of : Option Settings → Task
task_of None = at_once (line Usage usage_line)
task_of (Some settings) = task_by settings

-- what the words ask for
unfoldable pub task : List (List ℕ) → Task
task words = task_of (settings_of words)

-- the most bytes that are read
abbrev pub most_bytes : ℕ
most_bytes = 8388608

-- the answer to bytes that are too long, the same in every mode, or that of the mode
abbrev pub answer_by_length : Bool → Reading → List ℕ → Answer
answer_by_length true reading bytes = line Input too_long_line
answer_by_length false reading bytes = reading.answer bytes

abbrev pub answer_of_bytes : Reading → List ℕ → Answer
answer_of_bytes reading bytes = answer_by_length (nat_lt most_bytes (length bytes)) reading bytes

-- the answer to the bytes of the source
abbrev pub answer_to : Task → List ℕ → Answer
answer_to (at_once answer) bytes = answer
answer_to (reads reading) bytes = answer_of_bytes reading bytes

-- the answer to the words and the bytes
abbrev pub answer : List (List ℕ) → List ℕ → Answer
answer words bytes = answer_to (task words) bytes

-- the words give the answer, whatever the source has
abbrev pub AtOnce : Task → (Answer → Type 0) → Type 0
AtOnce (at_once answer) P = P answer
AtOnce (reads reading) P = Unit {0}

-- the words ask for the source to be read
abbrev pub Reads : Task → Type 0
Reads (at_once answer) = ⊥
Reads (reads reading) = Unit {0}

-- the words ask for the source to be read, and the bytes have no fault
abbrev pub IsFaultless : Task → List ℕ → Type 0
IsFaultless (at_once answer) bytes = ⊥
IsFaultless (reads reading) bytes = reading.is_faultless bytes

-- ---- statuses

-- the status with which a whole answer is written
abbrev pub status_of : Outcome → Status
status_of Done = status.Done
status_of SomeRefused = status.SomeRefused
status_of Usage = status.Usage
status_of Input = status.Input

-- the text of an answer was appended, and the status is that of its outcome
pub record IsAnswered (answer : Answer) (result : Status) (before now : Option (List ℕ)) : Type 0 where
  pub outcome : Outcome
  pub text : List ℕ
  pub said : answer outcome text
  pub status : result ≡ status_of outcome
  pub appended : Appends before now text

-- a status with which the whole answer is written
abbrev pub IsWhole : Status → Type 0
IsWhole status.Done = Unit {0}
IsWhole status.SomeRefused = Unit {0}
IsWhole status.Usage = Unit {0}
IsWhole status.Input = Unit {0}
IsWhole status.ReadFault = ⊥
IsWhole status.WriteFault = ⊥
IsWhole status.NoMemory = ⊥

-- a status with which a report is written
abbrev pub IsReported : Status → Type 0
IsReported result = (result ≡ status.Done) ⊎ (result ≡ status.SomeRefused)

-- no more bytes than the limit were taken
abbrev pub IsWithin : ℕ → Option (List ℕ) → Option (List ℕ) → Type 0
IsWithin limit before now = (taken : List ℕ) × Consumes before now taken × (length taken ≤ limit)

-- an end without a whole answer, by the source's count of faults, whether it is infallible, and its bytes: a fault of
-- reading has its cause, and running out of memory hides no fault
abbrev pub MayEnd : Failure → ℕ → ℕ → Bool → Option (List ℕ) → Option (List ℕ) → Type 0
MayEnd ReadFault was is sure before now = Rose was is × (sure ≡ false) × IsWithin most_bytes before now
MayEnd NoMemory was is sure before now = (is ≡ was) × IsWithin (most_bytes + 1) before now

-- bytes were taken: all that there were, and no more than the limit
abbrev pub IsRead : ℕ → Option (List ℕ) → Option (List ℕ) → Type 0
IsRead limit before now = IsAtEnd now × IsWithin limit before now

-- or one more than the limit
abbrev pub IsTooLong : ℕ → Option (List ℕ) → Option (List ℕ) → Type 0
IsTooLong limit before now = (taken : List ℕ) × Consumes before now taken × (length taken ≡ limit + 1)

-- what an answer with this outcome took from the source, where the words ask for the source to be read
abbrev pub Took : Outcome → Option (List ℕ) → Option (List ℕ) → Type 0
Took Done before now = IsRead most_bytes before now
Took SomeRefused before now = IsRead most_bytes before now
Took Usage before now = ⊥
Took Input before now = IsRead most_bytes before now ⊎ IsTooLong most_bytes before now

-- bytes were taken of which P holds
abbrev pub SomeTaken : Option (List ℕ) → Option (List ℕ) → (List ℕ → Type 0) → Type 0
SomeTaken before now P = (taken : List ℕ) × Consumes before now taken × P taken

-- the words ask for the source to be read, and the bytes are short enough and have no fault in that mode
pub record IsWellFormed (words : List (List ℕ)) (bytes : List ℕ) : Type 0 where
  pub short : length bytes ≤ most_bytes
  pub faultless : IsFaultless (task words) bytes
