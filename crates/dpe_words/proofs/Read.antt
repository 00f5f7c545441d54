-- What a parse of the words shows of them.
use Rattle.std.proofs.Common.{◌≡◌, List, [], Bool, true, false, cond, Option, Some, None, refl, codes, option_map, drop}
use Rattle.clap.specs.Simple.{built}
use Rattle.clap.specs.Words.{Text, is_simple, is_simple_and_free, takes, fault_of}
use Rattle.dpe_words.proofs.Agree.{leaf_agrees}
use Rattle.dpe_words.specs.declared.line.Texts.{Texts}
use Rattle.dpe_words.specs.Command.{command, whole_line}
use Rattle.dpe_words.specs.Line.{Given, all_given, given_by, given_in, given_to}

abbrev some_given : Given → Option Given
some_given given = Some given

none_by : (b : Bool) (given : Given) → (b ≡ true → ⊥) → cond b (Some given) None ≡ None
none_by true given h = absurd (h refl)
none_by false given h = refl

pub not_taken : (words : List Text) → (takes command (whole_line words) ≡ true → ⊥) → given_by words ≡ None
unfolding given_by
not_taken words h = none_by (takes command (whole_line words)) (all_given words) h

pub taken : (words : List Text) → takes command (whole_line words) ≡ true → given_by words ≡ Some (all_given words)
unfolding given_by
taken words h = rw h refl

-- the values that the program holds are those that the words give
pub all_read : (words : List Text) (t : Texts) → option_map (λ s. s.now) t.mode ≡ given_to words (codes "mode") → option_map (λ s. s.now) t.enumerator ≡ given_to words (codes "enumerator")
    → option_map (λ s. s.now) t.buffer ≡ given_to words (codes "buffer") → option_map (λ s. s.now) t.workers ≡ given_to words (codes "workers") → option_map (λ s. s.now) t.model ≡ given_to words (codes "model")
    → option_map (λ s. s.now) t.format ≡ given_to words (codes "format") → option_map (λ s. s.now) t.stats ≡ given_to words (codes "stats")
    → option_map (λ s. s.now) t.number ≡ given_to words (codes "number") → some_given (all_given words) ≡ some_given (given_in t)
all_read words t a b c d e f g h = rw (a, b, c, d, e, f, g, h) refl

pub command_is_simple : is_simple command ≡ true
command_is_simple = refl

pub command_is_free : is_simple_and_free command ≡ true
command_is_free = refl

pub faultless : (words : List Text) → fault_of command words ≡ [] → takes command words ≡ true
faultless words h = leaf_agrees (built command) (drop 1 words) refl refl (λ rows. refl) h
