-- What the words of a command line say.
use Rattle.std.specs.Prelude.{◌≡◌, ◌^◌, ◌-◌, ◌≤◌, List, false, if◌then◌else◌, Option, Some, None, Result, Ok, Err, IsSome, codes, string_bytes, map, String, option_map}
use Rattle.std.specs.declared.alloc.Global.{Global}
use Rattle.clap.specs.Words.{Text, first_of, matches_of, takes}
use Rattle.cost_model.specs.declared.model.ModelKind.TheVariants.{Ops}
use Rattle.dpe_base.specs.declared.TheConstants.{BUFFER_MAX, WORKERS_MAX}
use Rattle.dpe_base.specs.declared.kind.Kind.TheVariants.{DpCcp}
use Rattle.dpe_words.specs.declared.choices.Mode.TheVariants.{Plan}
use Rattle.dpe_words.specs.declared.choices.Settings.{Settings}
use Rattle.dpe_words.specs.declared.choices.WordFault.{WordFault}
use Rattle.dpe_words.specs.declared.choices.WordFault.TheVariants.{Usage, NoMemory}
use Rattle.plan_report.specs.declared.report.Format.TheVariants as format
use Rattle.dpe_words.specs.declared.line.Texts.{Texts}
use Rattle.dpe_words.specs.Command.{command, whole_line}
use Rattle.dpe_words.specs.Values.{modes, enumerators, models, formats, switches, meaning_in, number_in, value_or}

infixl 10 ◌>>=◌
abbrev pub ◌>>=◌ : {A B : Type 0} → Option A → (A → Option B) → Option B
(Some x) >>= f = f x
None >>= f = None

-- ---- what the words give the options

-- the value that the words give an option
abbrev pub given_to : List Text → Text → Option Text
given_to words name = first_of name (matches_of command (whole_line words))

-- the values of the eight options, as they were written
pub record Given : Type 0 where
  pub mode : Option Text
  pub enumerator : Option Text
  pub buffer : Option Text
  pub workers : Option Text
  pub model : Option Text
  pub format : Option Text
  pub stats : Option Text
  pub number : Option Text

abbrev pub all_given : List Text → Given
all_given words = record {
  mode = given_to words (codes "mode");
  enumerator = given_to words (codes "enumerator");
  buffer = given_to words (codes "buffer");
  workers = given_to words (codes "workers");
  model = given_to words (codes "model");
  format = given_to words (codes "format");
  stats = given_to words (codes "stats");
  number = given_to words (codes "number");
}

-- the values, where the command takes the words
unfoldable pub given_by : List Text → Option Given
given_by words = if takes command (whole_line words) then Some (all_given words) else None

-- ---- what the values ask for

unfoldable pub settings_by : Given → Option Settings
settings_by given = do
  mode ← value_or Plan (meaning_in modes) given.mode
  enumerator ← value_or DpCcp (meaning_in enumerators) given.enumerator
  buffer ← value_or 4096 (number_in 1 BUFFER_MAX) given.buffer
  workers ← value_or 4 (number_in 1 WORKERS_MAX) given.workers
  model ← value_or Ops (meaning_in models) given.model
  format ← value_or format.Text (meaning_in formats) given.format
  stats ← value_or false (meaning_in switches) given.stats
  number ← value_or 1 (number_in 0 (2 ^ 64 - 1)) given.number
  Some (record { mode = mode; enumerator = enumerator; buffer = buffer; workers = workers; model = model; format = format; stats = stats; number = number })

-- what the words ask for, where they are a command line: the command takes them, and each value
-- stands in its table
unfoldable pub settings_of : List Text → Option Settings
settings_of words = do
  given ← given_by words
  settings_by given

abbrev pub IsLine : List Text → Type 0
IsLine words = IsSome (settings_of words)

-- the numbers of a command line's settings
pub record AreInRange (s : Settings) : Type 0 where
  pub buffer : (1 ≤ s.buffer) × (s.buffer ≤ BUFFER_MAX)
  pub workers : (1 ≤ s.workers) × (s.workers ≤ WORKERS_MAX)

-- the answer, seen by view, is what the words say, or Usage where they say nothing; running out of memory may be reported at any point
abbrev pub IsSaidBy : {X Y : Type 0} → (X → Y) → Result X WordFault → Option Y → Type 0
IsSaidBy view (Ok x) said = said ≡ Some (view x)
IsSaidBy view (Err Usage) said = said ≡ None
IsSaidBy view (Err NoMemory) said = Unit {0}

-- the same of an answer that is seen as it is
abbrev pub IsSaid : {X : Type 0} → Result X WordFault → Option X → Type 0
IsSaid = IsSaidBy (λ x. x)

-- ---- how the program holds words and values

abbrev pub texts_of : List (String Global) → List Text
texts_of words = map string_bytes words

abbrev pub given_in : Texts → Given
given_in t = record {
  mode = option_map (λ s. s.now) t.mode;
  enumerator = option_map (λ s. s.now) t.enumerator;
  buffer = option_map (λ s. s.now) t.buffer;
  workers = option_map (λ s. s.now) t.workers;
  model = option_map (λ s. s.now) t.model;
  format = option_map (λ s. s.now) t.format;
  stats = option_map (λ s. s.now) t.stats;
  number = option_map (λ s. s.now) t.number;
}
