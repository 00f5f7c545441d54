-- How a fraction is written: as a decimal text where that says it exactly, and else as the array of its two numbers.
use Rattle.std.specs.Prelude.{ℕ, zero, suc, ◌+◌, ◌/◌, ◌%◌, ◌^◌, ◌==◌, ◌&&◌, nat_le, List, [], ◌∷◌, find, if◌then◌else◌, Option, Some, None}
use Rattle.std.specs.List.{range_with_len}
use Rattle.serde_json.specs.Data.{Data, number, unsigned, string, array, no_items, item}
use Rattle.query_json.specs.declared.file.Ratio.{Ratio}

-- the last k decimal digits of n, the highest first
abbrev pub last_digits : ℕ → ℕ → List ℕ
last_digits zero n = []
last_digits (suc k) n = (48 + n / 10 ^ k % 10) ∷ last_digits k n

abbrev pub after_point : ℕ → ℕ → List ℕ
after_point zero n = []
after_point (suc k) n = 46 ∷ last_digits (suc k) n

-- n / 10^k with exactly k digits after the point, where n is at most 10^k
unfoldable pub decimal_text : ℕ → ℕ → List ℕ
decimal_text k n = (48 + n / 10 ^ k) ∷ after_point k n

-- a decimal text has at most so many digits after the point
abbrev pub most_places : ℕ
most_places = 12

-- how many digits after the point the decimal text of this fraction has: none where it has no decimal text
unfoldable pub decimal_places : Ratio → Option ℕ
decimal_places r = if nat_le 1 r.num && nat_le r.num r.den then find (λ k. 10 ^ k == r.den) (range_with_len 0 (most_places + 1)) else None

abbrev pub pair_of : Ratio → Data
pair_of r = array (item (number (unsigned r.num)) (item (number (unsigned r.den)) no_items))

abbrev pub fraction_or_pair : Ratio → Option ℕ → Data
fraction_or_pair r None = pair_of r
fraction_or_pair r (Some k) = string (decimal_text k r.num)

unfoldable pub fraction_data : Ratio → Data
fraction_data r = fraction_or_pair r (decimal_places r)
