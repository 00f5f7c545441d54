-- What a mode answers, at once or to the bytes that it reads.
use Rattle.std.specs.Prelude.{◌≡◌, ℕ, List, Result, Ok, Err, IsOk}
use Rattle.dpe_top.specs.declared.status.Outcome.{Outcome}
use Rattle.dpe_top.specs.declared.status.Outcome.TheVariants.{Input}

-- an answer, by the outcomes and the texts that are one: with this outcome, this is the whole text
abbrev pub Answer : Type 1
Answer = Outcome → List ℕ → Type 0

-- one line, with one outcome
abbrev pub line : Outcome → List ℕ → Answer
line why said outcome text = (outcome ≡ why) × (text ≡ said)

-- what a mode makes of the bytes of a source: the answer to them, and whether they have no fault
pub record Reading : Type 1 where
  pub answer : List ℕ → Answer
  pub is_faultless : List ℕ → Type 0

-- the answer to what was read, or the line of the fault
abbrev pub answer_or_line : {X F : Type 0} → (X → Answer) → (F → List ℕ) → Result X F → Answer
answer_or_line answer line_of (Ok x) = answer x
answer_or_line answer line_of (Err fault) = line Input (line_of fault)

-- the bytes are read as a value, to which there is an answer, or have a fault, which has a line
abbrev pub reading_by : {X F : Type 0} → (List ℕ → Result X F) → (X → Answer) → (F → List ℕ) → Reading
reading_by read answer line_of = record {
  answer = λ bytes. answer_or_line answer line_of (read bytes);
  is_faultless = λ bytes. IsOk (read bytes);
}

-- what is to be done: to answer at once, or to read the source
pub data Task : Type 1 where
  at_once : Answer → Task
  reads : Reading → Task
