-- How far the words are copied.
use Rattle.std.proofs.Common.{◌≡◌, ℕ, ◌+◌, List}
use Rattle.std.specs.Prelude.{slice_index_or}
use mathlib.Core.Option.{some}
use lib.ListN.{get_elem?}
use Rattle.dpe_base.specs.declared.TheConstants.{EMPTY}

-- the row has the word of the set s, before which the counter stands among the words
abbrev pub IsCopied : List ℕ → List ℕ → ℕ → Type 0
IsCopied words row s = get_elem? words (s + 1) ≡ some (slice_index_or row s EMPTY)
