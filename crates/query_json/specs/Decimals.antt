-- Decimal texts, as 0.05: a digit 0 or 1, alone or with a point and up to twelve digits behind it.
use Rattle.std.specs.Prelude.{ℕ, ◌^◌, ◌&&◌, ◌||◌, ◌==◌, nat_le, List, [], ◌∷◌, length, Bool, if◌then◌else◌, Option, Some, None}
use Rattle.std.specs.List.{list_all}
use Rattle.std.specs.Char.{is_ascii_digit}
use Rattle.std.specs.Str.Parse.{digits_value}
use Rattle.query_json.specs.declared.TheConstants.{DECIMALS_MAX}
use Rattle.query_json.specs.declared.file.Ratio.{Ratio}

-- what may stand behind the point
abbrev pub are_decimals : List ℕ → Bool
are_decimals ds = nat_le 1 (length ds) && nat_le (length ds) DECIMALS_MAX && list_all is_ascii_digit ds

-- all the digits without the point, over ten to the number of those behind it
abbrev pub over_tens : ℕ → List ℕ → Ratio
over_tens first ds = record { num = digits_value 10 (first ∷ ds); den = 10 ^ length ds }

-- the fraction of a text by its first digit and what follows it
abbrev pub decimal_from : ℕ → List ℕ → Option Ratio
decimal_from first [] = Some (over_tens first [])
decimal_from first (b ∷ ds) = if b == 46 && are_decimals ds then Some (over_tens first ds) else None

-- the fraction that a decimal text means, not yet looked at
unfoldable pub decimal_of : List ℕ → Option Ratio
decimal_of [] = None
decimal_of (first ∷ rest) = if first == 48 || first == 49 then decimal_from first rest else None
