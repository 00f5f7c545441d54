-- The values that each option takes.
use Rattle.std.specs.Prelude.{ℕ, ◌&&◌, nat_le, List, [], ◌∷◌, length, Bool, true, false, if◌then◌else◌, Option, Some, None, codes}
use Rattle.std.specs.Str.{bytes_eq}
use Rattle.std.specs.Char.{is_ascii_digit}
use Rattle.std.specs.List.{list_all}
use Rattle.std.specs.Str.Parse.{digits_value}
use Rattle.clap.specs.Words.{Text}
use Rattle.cost_model.specs.declared.model.ModelKind.{ModelKind}
use Rattle.cost_model.specs.declared.model.ModelKind.TheVariants.{Ops, Cout}
use Rattle.dpe_base.specs.declared.kind.Kind.{Kind}
use Rattle.dpe_base.specs.declared.kind.Kind.TheVariants.{DpCcp, DpSub, DpSize, DpSva}
use Rattle.dpe_words.specs.declared.choices.Mode.{Mode}
use Rattle.dpe_words.specs.declared.choices.Mode.TheVariants.{Plan, Sample, Migrate, Certify, Check, Narrow, Zigzag, Leftdeep, Reopt}
use Rattle.plan_report.specs.Names.{enumerator_name}
use Rattle.plan_report.specs.declared.report.Format.{Format}
use Rattle.plan_report.specs.declared.report.Format.TheVariants as format

-- ---- the words of each option

abbrev pub modes : List (Text × Mode)
modes =
    (codes "plan", Plan)
    ∷ (codes "sample", Sample)
    ∷ (codes "migrate", Migrate)
    ∷ (codes "certify", Certify)
    ∷ (codes "check", Check)
    ∷ (codes "narrow", Narrow)
    ∷ (codes "zigzag", Zigzag)
    ∷ (codes "leftdeep", Leftdeep)
    ∷ (codes "reopt", Reopt)
    ∷ []

abbrev pub enumerators : List (Text × Kind)
enumerators =
    (enumerator_name DpCcp, DpCcp)
    ∷ (enumerator_name DpSub, DpSub)
    ∷ (enumerator_name DpSize, DpSize)
    ∷ (enumerator_name DpSva, DpSva)
    ∷ []

abbrev pub models : List (Text × ModelKind)
models = (codes "ops", Ops) ∷ (codes "cout", Cout) ∷ []

abbrev pub formats : List (Text × Format)
formats = (codes "text", format.Text) ∷ (codes "json", format.Json) ∷ []

abbrev pub switches : List (Text × Bool)
switches = (codes "on", true) ∷ (codes "off", false) ∷ []

-- what a word stands for in a table
abbrev pub meaning_in : {A : Type 0} → List (Text × A) → Text → Option A
meaning_in [] word = None
meaning_in (entry ∷ rest) word = if bytes_eq word entry.0 then Some entry.1 else meaning_in rest word

-- ---- numbers

-- the number that 1 to 20 digits write
abbrev pub written_number : Text → Option ℕ
written_number word =
    if nat_le 1 (length word) && nat_le (length word) 20 && list_all is_ascii_digit word then Some (digits_value 10 word) else None

abbrev pub from_to : ℕ → ℕ → Option ℕ → Option ℕ
from_to low high None = None
from_to low high (Some n) = if nat_le low n && nat_le n high then Some n else None

-- the number that a word writes, where it lies between the two ends
abbrev pub number_in : ℕ → ℕ → Text → Option ℕ
number_in low high word = from_to low high (written_number word)

-- ---- an option that need not be given

-- the meaning of the value, or the default where the option is not given
abbrev pub value_or : {A : Type 0} → A → (Text → Option A) → Option Text → Option A
value_or default meaning None = Some default
value_or default meaning (Some word) = meaning word
