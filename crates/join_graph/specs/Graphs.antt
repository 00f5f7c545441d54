-- The join graph of a query: crossings, connected sets, and the pairs of connected sets that are joined.
use Rattle.std.specs.Prelude.{◌≡◌, ◌≢◌, ◌↔◌, ℕ, ◌⊎◌, ◌==◌, List, fold, map, length, slice_index, ◌≤◌, ◌<◌, if◌then◌else◌}
use Rattle.std.specs.List.{range_with_len}
use Rattle.dpe_base.specs.declared.TheConstants.{N_MAX}
use Rattle.dpe_base.specs.declared.query.Pred.{Pred}
use Rattle.dpe_base.specs.declared.pair.Pair.{Pair}
use Rattle.dpe_base.specs.Queries.{JoinQuery, relations}
use Rattle.dpe_base.specs.Sets.{Has, Within, Disjoint, IsLeast, union, single, full}

-- how many relations, and the set of the neighbours of each
pub record JoinGraph : Type 0 where
  pub n : ℕ
  pub adjacent : List ℕ

-- the other end of a predicate with an end at r
unfoldable pub other_end : ℕ → Pred → ℕ
other_end r p = if p.low == r then single p.high else (if p.high == r then single p.low else 0)

-- the relations that a predicate joins to r
unfoldable pub adjacent_to : List Pred → ℕ → ℕ
adjacent_to preds r = fold (λ s p. union s (other_end r p)) 0 preds

unfoldable pub adjacency : List Pred → List ℕ
adjacency preds = map (adjacent_to preds) (range_with_len 0 N_MAX)

-- two relations are joined where a predicate of the query has them as its ends
abbrev pub graph_of : JoinQuery → JoinGraph
graph_of q = record { n = relations q; adjacent = adjacency q.preds }

abbrev pub Edge : JoinGraph → ℕ → ℕ → Type 0
Edge g r s = Has (slice_index g.adjacent r) s

-- what the graph of a query keeps: edges between its relations, the same from both ends
pub record IsGraph (g : JoinGraph) : Type 0 where
  pub some : 0 < g.n
  pub few : g.n ≤ N_MAX
  pub sized : length g.adjacent ≡ N_MAX
  pub known : (r s : ℕ) → Edge g r s → (r < g.n) × (s < g.n)
  pub turned : (r s : ℕ) → Edge g r s → Edge g s r

-- an edge has one end in a and the other in b
abbrev pub Crossed : JoinGraph → ℕ → ℕ → Type 0
Crossed g a b = (r : ℕ) × (s : ℕ) × Edge g r s × ((Has a r × Has b s) ⊎ (Has a s × Has b r))

-- t has the relations outside s that an edge joins to one in s
abbrev pub IsNeighbours : JoinGraph → ℕ → ℕ → Type 0
IsNeighbours g s t = (r : ℕ) → Has t r ↔ ((Has s r → ⊥) × ((k : ℕ) × Has s k × Edge g k r))

-- s is not empty, and an edge crosses each split of s into two parts that are not empty
pub record Connected (g : JoinGraph) (s : ℕ) : Type 0 where
  pub some : s ≢ 0
  pub within : Within s (full g.n)
  pub split : (a b : ℕ) → a ≢ 0 → b ≢ 0 → Disjoint a b → union a b ≡ s → Crossed g a b

abbrev pub pair_of : ℕ → ℕ → Pair
pair_of a b = record { a = a; b = b }

-- the pairs of the graph: two connected sets, disjoint and crossed, the first with the least relation of both
pub record Pairs (g : JoinGraph) (p : Pair) : Type 0 where
  pub first : Connected g p.a
  pub second : Connected g p.b
  pub apart : Disjoint p.a p.b
  pub crossed : Crossed g p.a p.b
  pub least : (r : ℕ) → IsLeast (union p.a p.b) r → Has p.a r

-- a walk from the one relation reaches the other
pub data Reached (g : JoinGraph) (first : ℕ) : ℕ → Type 0 where
  start : Reached g first first
  step : (r s : ℕ) → Reached g first r → Edge g r s → Reached g first s

-- no walk from relation 0 reaches r, and one reaches each smaller relation
pub record IsFirstUnreached (g : JoinGraph) (r : ℕ) : Type 0 where
  pub known : r < g.n
  pub unreached : Reached g 0 r → ⊥
  pub reached : (k : ℕ) → k < r → Reached g 0 k
