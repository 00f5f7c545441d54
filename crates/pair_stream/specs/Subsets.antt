-- Subsets in the order of their numbers, and numbers that descend.
use Rattle.std.specs.Prelude.{ℕ, zero, suc, ◌-◌, ◌<◌, ◌≤◌, List, [], ◌∷◌}
use Rattle.std.specs.List.{range_with_len, filter}
use Rattle.dpe_base.specs.Sets.{Has, Within, is_within, least}

-- the subsets of whole above s, ascending
unfoldable pub subsets_after : ℕ → ℕ → List ℕ
subsets_after s whole = filter (λ t. is_within t whole) (range_with_len (suc s) (whole - s))

-- the subsets that are not empty, ascending
abbrev pub subsets : ℕ → List ℕ
subsets whole = subsets_after 0 whole

-- the numbers below n, descending
unfoldable pub descending : ℕ → List ℕ
descending zero = []
descending (suc n) = n ∷ descending n

-- t is the next greater subset of whole after s that has the least member of whole
pub record IsNextWithLeast (s whole t : ℕ) : Type 0 where
  pub within : Within t whole
  pub greater : s < t
  pub has : Has t (least whole)
  pub next : (u : ℕ) → Within u whole → Has u (least whole) → s < u → t ≤ u
