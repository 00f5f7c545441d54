-- What the streams by sizes have still to give, and what their fields keep.
use Rattle.std.specs.Prelude.{ℕ, suc, ◌+◌, ◌*◌, ◌≤◌, ◌<◌, ◌≡◌, ◌⊎◌, Option, Some, None, ◌-◌, ◌/◌, Bool, ◌==◌, List, [], ◌∷◌, ◌++◌, drop, length}
use Rattle.std.specs.List.{range_with_len, flat_map}
use Rattle.dpe_base.specs.declared.TheConstants.{N_MAX}
use Rattle.dpe_base.specs.declared.pair.Pair.{Pair}
use Rattle.join_graph.specs.Graphs.{JoinGraph, IsGraph, IsNeighbours}
use Rattle.pair_stream.specs.Parts.{part, parts_of}
use Rattle.enum_dpsize.specs.declared.cursor.Cursor.{Cursor}
use Rattle.enum_dpsize.specs.declared.pairs.Neighbourhood.{Neighbourhood}
use Rattle.enum_dpsize.specs.Dpsize.{pairs_with, row_pairs, pairs_sized}

-- as `row_pairs`, the first set with the second sets from place j on
abbrev pub rows_from : JoinGraph → List ℕ → Bool → List ℕ → ℕ → List Pair
rows_from g ys same [] j = []
rows_from g ys same (x ∷ xs) j = pairs_with g (drop j ys) x ++ row_pairs g ys same xs

-- the pairs from the sizes s and k, row i and place j on
unfoldable pub dpsize_left : JoinGraph → ℕ → ℕ → ℕ → ℕ → List Pair
dpsize_left g s k i j =
    rows_from g (part g (s - k)) (k == s - k) (drop i (part g k)) j
    ++ (flat_map (λ k. pairs_sized g k (s - k)) (range_with_len (suc k) (s / 2 - k))
    ++ flat_map (λ s. flat_map (λ k. pairs_sized g k (s - k)) (range_with_len 1 (s / 2))) (range_with_len (suc s) (g.n - s)))

-- a smaller side of one more, or the next size of the union, or the end
abbrev pub NextSizes : ℕ → ℕ → ℕ → Option (ℕ × ℕ) → Type 0
NextSizes s k n (Some next) =
    ((k * 2 + 2 ≤ s) × (next.0 ≡ s) × (next.1 ≡ k + 1)) ⊎ ((s < k * 2 + 2) × (s < n) × (next.0 ≡ s + 1) × (next.1 ≡ 1))
NextSizes s k n None = (s < k * 2 + 2) × (n ≤ s)

-- the pairs from a cursor on
abbrev pub left_at : JoinGraph → Cursor → List Pair
left_at g c = dpsize_left g c.size c.small c.row c.next

-- both sides have one size, so that their sets stand in one list
abbrev pub is_same : Cursor → Bool
is_same c = c.small == c.size - c.small

-- what falls from sizes to the next
abbrev pub sizes_rank : JoinGraph → Cursor → ℕ
sizes_rank g c = (g.n + 2 - c.size) * (N_MAX + 1) + (c.size - c.small)

-- what every cursor keeps
pub record IsCursor (g : JoinGraph) (c : Cursor) : Type 0 where
  pub graph : IsGraph g
  pub small : 1 ≤ c.small
  pub half : c.small * 2 ≤ c.size
  pub known : c.size ≤ c.small + g.n
  pub fits : c.small ≤ g.n
  pub row_known : c.row ≤ length (part g c.small)

-- what every state keeps
pub record IsDpsizeState (g : JoinGraph) (parts : List (List ℕ)) (c : Cursor) : Type 0 where
  pub cursor : IsCursor g c
  pub made : parts ≡ parts_of g

-- the neighbourhood is that of x
pub record IsOf (g : JoinGraph) (x : ℕ) (h : Neighbourhood) : Type 0 where
  pub set : h.set ≡ x
  pub around : IsNeighbours g x h.around
