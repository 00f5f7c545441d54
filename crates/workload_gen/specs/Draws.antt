-- Which sample a number gives: the words of a generator, drawn in order.
use Rattle.std.specs.Prelude.{ℕ, zero, suc, ◌+◌, ◌-◌, ◌%◌, ◌==◌, List, [], ◌∷◌, ◌++◌, Option, Some, None, if◌then◌else◌}
use Rattle.std.specs.List.{filter_map}
use Rattle.rand_xoshiro.specs.SplitMix64.{splitmix_seed}
use Rattle.rand_xoshiro.specs.Xoshiro256.{of_seed, plus_plus}
use Rattle.workload_gen.specs.declared.sample.Table.{Table}
use Rattle.workload_gen.specs.declared.sample.Relation.{Relation}
use Rattle.workload_gen.specs.declared.sample.Join.{Join}
use Rattle.workload_gen.specs.Sample.{Sample, SampleQuery}

-- ---- drawing: from the generator's state, a value and the state after it

abbrev pub State : Type 0
State = List ℕ

abbrev pub Drawing : Type 0 → Type 0
Drawing A = State → A × State

infixl 10 ◌>>=◌
abbrev pub ◌>>=◌ : {A B : Type 0} → Drawing A → (A → Drawing B) → Drawing B
(draw >>= next) state = next (draw state).0 (draw state).1

-- a value that takes no word
abbrev pub give : {A : Type 0} → A → Drawing A
give value state = (value, state)

-- the remainder of the next word: one of the k numbers from 0 on
abbrev pub pick : ℕ → Drawing ℕ
pick k state = ((plus_plus state).0 % k, (plus_plus state).1)

-- one of the k numbers from `low` on
abbrev pub pick_from : ℕ → ℕ → Drawing ℕ
pick_from low k = do
  n ← pick k
  give (low + n)

-- one drawing after another, for each of `count` numbers from `first` on
unfoldable pub draw_each : {A : Type 0} → (ℕ → Drawing A) → ℕ → ℕ → Drawing (List A)
draw_each draw first zero = give []
draw_each draw first (suc count) = do
  x ← draw first
  xs ← draw_each draw (first + 1) count
  give (x ∷ xs)

-- ---- the parts of a sample

unfoldable pub table : Drawing Table
table = do
  rows ← pick_from 1 1000000
  distinct ← pick_from 1 rows
  give (record { rows = rows; distinct = distinct })

unfoldable pub relation : Drawing Relation
relation = do
  table ← pick 8
  kept ← pick_from 1 100
  give (record { table = table; kept = kept })

-- a join of relation i with an earlier one
unfoldable pub tree_join : ℕ → Drawing Join
tree_join i = do
  earlier ← pick i
  give (record { left = earlier; right = i; one_in = None })

-- a join of two of n relations, unless they are the same
unfoldable pub extra_join : ℕ → Drawing (Option Join)
extra_join n = do
  left ← pick n
  right ← pick n
  if left == right then give None else do
    one_in ← pick_from 1 1000
    give (Some (record { left = left; right = right; one_in = Some one_in }))

abbrev pub those_drawn : {A : Type 0} → List (Option A) → List A
those_drawn xs = filter_map (λ x. x) xs

-- what `count` tries at a further join give
abbrev pub joins_tried : ℕ → ℕ → Drawing (List Join)
joins_tried n count = do
  joins ← draw_each (λ k. extra_join n) 0 count
  give (those_drawn joins)

unfoldable pub extra_joins : ℕ → Drawing (List Join)
extra_joins n = do
  count ← pick 4
  joins_tried n count

-- the tree of joins makes the query connected
unfoldable pub query : Drawing SampleQuery
query = do
  n ← pick_from 2 11
  relations ← draw_each (λ i. relation) 0 n
  tree ← draw_each tree_join 1 (n - 1)
  extra ← extra_joins n
  give (record { relations = relations; joins = tree ++ extra })

unfoldable pub sample : Drawing Sample
sample = do
  tables ← draw_each (λ t. table) 0 8
  queries ← draw_each (λ j. query) 0 8
  give (record { tables = tables; queries = queries })

-- ---- the sample of a number

-- Xoshiro256++, seeded from a number by SplitMix64
abbrev pub seeded : ℕ → State
seeded number = of_seed (splitmix_seed 32 number)

unfoldable pub sample_of : ℕ → Sample
sample_of number = (sample (seeded number)).0
