-- The counter and the memo words after a write.
use Rattle.std.proofs.Common.{◌≡◌, ℕ, ◌+◌, ◌^◌, ◌<◌, ◌≤◌, ◌≢◌, List, length, get_or, set, replicate, refl, ◌∙◌, arith, length-set, get_or-set_same, get_or-set_other}
use Rattle.std.proofs.lemmas.List.{length-replicate, get_or-replicate}
use Rattle.dpe_base.specs.declared.TheConstants.{EMPTY}
use Rattle.memo_table.specs.Making.{opening_words}
use Rattle.memo_table.specs.Rule.{memo_word, counter}

-- a memo begins with a counter and a word for each set
pub opening_width : (n : ℕ) → length (opening_words n) ≡ 2 ^ n + 1
opening_width n = length-set (replicate (2 ^ n + 1) EMPTY) 0 0 ∙ length-replicate (2 ^ n + 1) EMPTY

-- and the words are empty
pub opening_empty : (n k : ℕ) → 1 ≤ k → k < length (opening_words n) → get_or (opening_words n) k EMPTY ≡ EMPTY
opening_empty n k some l =
    let ne : k ≢ 0 = omega arith in
    get_or-set_other (replicate (2 ^ n + 1) EMPTY) 0 k 0 EMPTY ne ∙ get_or-replicate (2 ^ n + 1) k EMPTY EMPTY (omega (arith, l, opening_width n))

-- a write of the counter leaves the memo words
pub word_beside : (words : List ℕ) (n s : ℕ) → memo_word (set words 0 n) s ≡ memo_word words s
word_beside words n s = let ne : s + 1 ≢ 0 = omega arith in rw get_or-set_other refl

-- a write of a set's word leaves the counter
pub counter_beside : (words : List ℕ) (w s : ℕ) → counter (set words (s + 1) w) ≡ counter words
counter_beside words w s = let ne : 0 ≢ s + 1 = omega arith in rw get_or-set_other refl

pub word_here : (words : List ℕ) (w s : ℕ) → s + 1 < length words → memo_word (set words (s + 1) w) s ≡ w
word_here words w s h = rw get_or-set_same refl

pub word_else : (words : List ℕ) (w s t : ℕ) → t ≢ s → memo_word (set words (s + 1) w) t ≡ memo_word words t
word_else words w s t n = let ne : t + 1 ≢ s + 1 = omega arith in rw get_or-set_other refl
