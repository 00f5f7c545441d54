-- What contracts see of an engine, and of the words that it leaves.
use Rattle.std.specs.Prelude.{◌≡◌, ℕ, ◌+◌, ◌*◌, ◌^◌, ◌<◌, ◌⊎◌, ◌==◌, if◌then◌else◌, List, ◌∷◌, length, slice_index_or, Contains}
use Rattle.std.specs.List.{AllPairs}
use Rattle.dpe_base.specs.declared.TheConstants.{EMPTY}
use Rattle.dpe_base.specs.declared.pair.Pair.{Pair}
use Rattle.dpe_base.specs.Queries.{JoinQuery, relations}
use Rattle.dpe_base.specs.Sets.{union}
use Rattle.join_tree.specs.Trees.{Made, Least}
use Rattle.pair_stream.specs.Orders.{Once, BuildsSide}
use Rattle.reorder_buffer.specs.Groups.{runs, rounds}
use Rattle.dpe_engine.specs.declared.engine.Solved.{Solved}

-- the query, its pairs, how many pairs a buffer holds, and how many workers there are
pub record EnginePlan : Type 0 where
  pub query : JoinQuery
  pub pairs : List Pair
  pub buffer : ℕ
  pub workers : ℕ

-- ---- what is known before the first round

-- the plan of an engine, and the words that stand in its memo, each with its set
pub record SeededPlan : Type 0 where
  pub plan : EnginePlan
  pub words : List (ℕ × ℕ)

-- one word more, unless it is EMPTY
abbrev pub with_word : List (ℕ × ℕ) → ℕ → ℕ → List (ℕ × ℕ)
with_word words s w = if w == EMPTY then words else (s, w) ∷ words

-- the least word of a tree over the set that the pairs make stands in the memo
pub record IsKnown (model : ℕ) (seeded : SeededPlan) (s : ℕ) : Type 0 where
  pub word : ℕ
  pub stands : Contains seeded.words (s, word)
  pub least : Least model seeded.plan.query seeded.plan.pairs s word

-- a later pair builds no side of an earlier one
abbrev pub MayStandBefore : Pair → Pair → Type 0
MayStandBefore earlier later = BuildsSide later earlier → ⊥

-- The rest is all of the pairs that is left to process where some sets are known: the union of each pair is known, or all pairs
-- with this union are in the rest
pub record IsRest (pairs : List Pair) (known : ℕ → Type 0) (rest : List Pair) : Type 0 where
  pub listed : (p : Pair) → Contains rest p → Contains pairs p
  pub once : Once rest
  pub order : AllPairs MayStandBefore rest
  pub given : (p : Pair) → Contains pairs p
      → known (union p.a p.b) ⊎ ((x : Pair) → Contains pairs x → union x.a x.b ≡ union p.a p.b → Contains rest x)

-- ---- what a run leaves

-- w is the least word of a tree over s that the pairs make, or EMPTY where no tree over s has a word
pub record IsLeastWord (model : ℕ) (q : JoinQuery) (pairs : List Pair) (s w : ℕ) : Type 0 where
  pub least : (v : ℕ) → Made model q pairs s v → Least model q pairs s w
  pub none : ((v : ℕ) → Made model q pairs s v → ⊥) → w ≡ EMPTY

-- each word of the row is the least of its set, or EMPTY
abbrev pub AreLeastWords : ℕ → JoinQuery → List Pair → List ℕ → Type 0
AreLeastWords model q pairs row =
    (s : ℕ) → s < 2 ^ relations q → IsLeastWord model q pairs s (slice_index_or row s 0)

-- the least words of all pairs of the plan, and the counts of a run that processed these
pub record HasProcessed (model : ℕ) (plan : EnginePlan) (processed : List Pair) (solved : Solved) : Type 0 where
  pub size : length solved.words.row ≡ 2 ^ relations plan.query
  pub words : AreLeastWords model plan.query plan.pairs solved.words.row
  pub pairs : solved.pairs ≡ length processed
  pub drawn : solved.words.drawn ≡ solved.pairs + plan.workers * solved.rounds
  pub buffers : solved.buffers ≡ length (runs plan.buffer processed)
  pub all_rounds : solved.rounds ≡ rounds plan.buffer processed

-- what a run over all pairs of the plan leaves
abbrev pub IsSolved : ℕ → EnginePlan → Solved → Type 0
IsSolved model plan solved = HasProcessed model plan plan.pairs solved
