-- What every sample keeps.
use Rattle.std.proofs.Common.{◌≡◌, ◌≢◌, ℕ, zero, suc, ◌+◌, ◌-◌, ◌<◌, ◌≤◌, Bool, true, false, if◌then◌else◌, List, [], ◌∷◌, ◌++◌, length, Option, Some, None, refl, sym, ap, subst, arith, length-append}
use Rattle.std.proofs.Math.Dec.{eqb}
use Rattle.std.proofs.lemmas.Bool.{eqb-false}
use Rattle.workload_gen.specs.declared.sample.Table.{Table}
use Rattle.workload_gen.specs.declared.sample.Relation.{Relation}
use Rattle.workload_gen.specs.declared.sample.Join.{Join}
use Rattle.workload_gen.specs.Draws.{State, Drawing, draw_each, extra_join, extra_joins, joins_tried, pick, give, pick_from, those_drawn, ◌>>=◌, query, relation, sample, table, tree_join}
use Rattle.workload_gen.specs.Sample.{Sample, SampleQuery}

-- ---- lists that are drawn

-- a fact of each member and its number
abbrev pub EachFrom : {A : Type 0} → (ℕ → A → Type 0) → ℕ → List A → Type 0
EachFrom P at [] = Unit {0}
EachFrom P at (x ∷ xs) = P at x × EachFrom P (at + 1) xs

abbrev pub Each : {A : Type 0} → (A → Type 0) → List A → Type 0
Each P [] = Unit {0}
Each P (x ∷ xs) = P x × Each P xs

drawn_length : {A : Type 0} (draw : ℕ → Drawing A) (first count : ℕ) (s : State) → length (draw_each draw first count s).0 ≡ count
unfolding draw_each
drawn_length draw first zero s = refl
drawn_length draw first (suc count) s = ap suc (drawn_length draw (first + 1) count (draw first s).1)

drawn_each_from : {A : Type 0} (P : ℕ → A → Type 0) (draw : ℕ → Drawing A) (low : ℕ) → ((k : ℕ) → low ≤ k → (s : State) → P k (draw k s).0)
    → (first count : ℕ) → low ≤ first → (s : State) → EachFrom P first (draw_each draw first count s).0
unfolding draw_each
drawn_each_from P draw low holds first zero over s = tt
drawn_each_from P draw low holds first (suc count) over s = (holds first over s, drawn_each_from P draw low holds (first + 1) count (omega arith) (draw first s).1)

drawn_each : {A : Type 0} (P : A → Type 0) (draw : ℕ → Drawing A) → ((k : ℕ) (s : State) → P (draw k s).0) → (first count : ℕ) (s : State) → Each P (draw_each draw first count s).0
unfolding draw_each
drawn_each P draw holds first zero s = tt
drawn_each P draw holds first (suc count) s = (holds first s, drawn_each P draw holds (first + 1) count (draw first s).1)

-- ---- the parts of a sample

pub record IsTable (table : Table) : Type 0 where
  pub rows : table.rows ≤ 1000000
  pub distinct : table.distinct ≤ 1000000

pub record IsRelation (relation : Relation) : Type 0 where
  pub table : relation.table < 8
  pub kept_some : 1 ≤ relation.kept
  pub kept : relation.kept ≤ 100

abbrev pub IsOneIn : Option ℕ → Type 0
IsOneIn None = Unit {0}
IsOneIn (Some d) = (1 ≤ d) × (d ≤ 1000)

-- a join of two of n relations
pub record IsJoin (n : ℕ) (join : Join) : Type 0 where
  pub left : join.left < n
  pub right : join.right < n
  pub apart : join.left ≢ join.right
  pub one_in : IsOneIn join.one_in

-- a join of relation i with an earlier one
pub record IsTreeJoin (i : ℕ) (join : Join) : Type 0 where
  pub left : join.left < i
  pub right : join.right ≡ i
  pub one_in : join.one_in ≡ None

pub record IsQuery (query : SampleQuery) : Type 0 where
  pub some : 2 ≤ length query.relations
  pub few : length query.relations ≤ 12
  pub relations : Each IsRelation query.relations
  pub joins : Each (IsJoin (length query.relations)) query.joins
  pub few_joins : length query.joins ≤ 14
  pub tree : List Join
  pub extra : List Join
  pub parts : query.joins ≡ tree ++ extra
  pub tree_joins : EachFrom IsTreeJoin 1 tree
  pub tree_size : length tree + 1 ≡ length query.relations

pub record IsSample (sample : Sample) : Type 0 where
  pub eight_tables : length sample.tables ≡ 8
  pub eight_queries : length sample.queries ≡ 8
  pub tables : Each IsTable sample.tables
  pub queries : Each IsQuery sample.queries

-- ---- the drawings

table_is : (s : State) → IsTable (table s).0
unfolding table
table_is s = record { rows = omega arith; distinct = omega arith }

relation_is : (s : State) → IsRelation (relation s).0
unfolding relation
relation_is s = record { table = omega arith; kept_some = omega arith; kept = omega arith }

tree_join_is : (i : ℕ) → 1 ≤ i → (s : State) → IsTreeJoin i (tree_join i s).0
unfolding tree_join
tree_join_is i some s = record { left = omega arith; right = refl; one_in = refl }

-- a try at a further join
abbrev IsExtra : ℕ → Option Join → Type 0
IsExtra n None = Unit {0}
IsExtra n (Some join) = IsJoin n join

further : ℕ → ℕ → Drawing (Option Join)
further left right = do
  one_in ← pick_from 1 1000
  give (Some (record { left = left; right = right; one_in = Some one_in }))

extra_by : (n left right : ℕ) (b : Bool) → eqb left right ≡ b → left < n → right < n → (s : State)
    → IsExtra n ((if◌then◌else◌ b (give None) (further left right)) s).0
unfolding further
extra_by n left right true e l r s = tt
extra_by n left right false e l r s = record { left = l; right = r; apart = eqb-false left right e; one_in = (omega arith, omega arith) }

extra_join_is : (n : ℕ) → 1 ≤ n → (s : State) → IsExtra n (extra_join n s).0
unfolding extra_join further
extra_join_is n some s =
    let left = pick n s in
    let right = pick n left.1 in
    extra_by n left.0 right.0 (eqb left.0 right.0) refl (omega arith) (omega arith) right.1

present_each : (n : ℕ) (os : List (Option Join)) → Each (IsExtra n) os → Each (IsJoin n) (those_drawn os)
present_each n [] h = tt
present_each n (None ∷ os) h = present_each n os h.1
present_each n (Some x ∷ os) h = (h.0, present_each n os h.1)

present_few : {A : Type 0} (os : List (Option A)) → length (those_drawn os) ≤ length os
present_few [] = omega arith
present_few (None ∷ os) = let few = present_few os in omega arith
present_few (Some x ∷ os) = let few = present_few os in omega arith

joins_tried_each : (n count : ℕ) → 1 ≤ n → (s : State) → Each (IsJoin n) (joins_tried n count s).0
joins_tried_each n count some s = present_each n (draw_each (λ k. extra_join n) 0 count s).0 (drawn_each (IsExtra n) (λ k. extra_join n) (λ k. extra_join_is n some) 0 count s)

joins_tried_few : (n count : ℕ) (s : State) → length (joins_tried n count s).0 ≤ count
joins_tried_few n count s = omega (arith, present_few (draw_each (λ k. extra_join n) 0 count s).0, drawn_length (λ k. extra_join n) 0 count s)

-- a tree join is a join of two of n relations
tree_join_among : (n i : ℕ) (join : Join) → i < n → IsTreeJoin i join → IsJoin n join
tree_join_among n i join below h = record { left = omega arith; right = omega arith; apart = omega arith; one_in = rw h.one_in tt }

tree_joins_among : (n i : ℕ) (joins : List Join) → i + length joins ≤ n → EachFrom IsTreeJoin i joins → Each (IsJoin n) joins
tree_joins_among n i [] fits h = tt
tree_joins_among n i (j ∷ js) fits h = (tree_join_among n i j (omega arith) h.0, tree_joins_among n (i + 1) js (omega arith) h.1)

each_append : {A : Type 0} (P : A → Type 0) (xs ys : List A) → Each P xs → Each P ys → Each P (xs ++ ys)
each_append P [] ys h k = k
each_append P (x ∷ xs) ys h k = (h.0, each_append P xs ys h.1 k)

extra_joins_each : (n : ℕ) → 1 ≤ n → (s : State) → Each (IsJoin n) (extra_joins n s).0
unfolding extra_joins
extra_joins_each n some s = joins_tried_each n (pick 4 s).0 some (pick 4 s).1

extra_joins_few : (n : ℕ) (s : State) → length (extra_joins n s).0 ≤ 3
unfolding extra_joins
extra_joins_few n s = let few = joins_tried_few n (pick 4 s).0 (pick 4 s).1 in omega arith

-- the query of n relations
query_by : (n : ℕ) → 2 ≤ n → n ≤ 12 → (s : State) → (relations : List Relation) (tree extra : List Join)
    → length relations ≡ n → Each IsRelation relations → length tree ≡ n - 1 → EachFrom IsTreeJoin 1 tree → Each (IsJoin n) extra → length extra ≤ 3
    → IsQuery (record { relations = relations; joins = tree ++ extra })
query_by n some few s relations tree extra size rels tree_size trees extras few_extras = record {
  some = omega arith;
  few = omega arith;
  relations = rels;
  joins = subst (λ m. Each (IsJoin m) (tree ++ extra)) (sym size) (each_append (IsJoin n) tree extra (tree_joins_among n 1 tree (omega arith) trees) extras);
  few_joins = omega (arith, length-append tree extra);
  tree = tree;
  extra = extra;
  parts = refl;
  tree_joins = trees;
  tree_size = omega arith;
}

query_is : (s : State) → IsQuery (query s).0
unfolding query
query_is s =
    let n = pick_from 2 11 s in
    let relations = draw_each (λ i. relation) 0 n.0 n.1 in
    let tree = draw_each tree_join 1 (n.0 - 1) relations.1 in
    query_by n.0 (omega arith) (omega arith) s relations.0 tree.0 (extra_joins n.0 tree.1).0
    (drawn_length (λ i. relation) 0 n.0 n.1) (drawn_each IsRelation (λ i. relation) (λ k. relation_is) 0 n.0 n.1)
    (drawn_length tree_join 1 (n.0 - 1) relations.1) (drawn_each_from IsTreeJoin tree_join 1 tree_join_is 1 (n.0 - 1) (omega arith) relations.1)
    (extra_joins_each n.0 (omega arith) tree.1) (extra_joins_few n.0 tree.1)

pub sample_is : (s : State) → IsSample (sample s).0
unfolding sample
sample_is s =
    let tables = draw_each (λ t. table) 0 8 s in
    record {
      eight_tables = drawn_length (λ t. table) 0 8 s;
      eight_queries = drawn_length (λ j. query) 0 8 tables.1;
      tables = drawn_each IsTable (λ t. table) (λ k. table_is) 0 8 s;
      queries = drawn_each IsQuery (λ j. query) (λ k. query_is) 0 8 tables.1;
    }
