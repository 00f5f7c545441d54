-- Each query of a sample is accepted.
use Rattle.std.proofs.Common.{◌≡◌, ◌≢◌, ◌∙◌, ℕ, suc, ◌+◌, ◌<◌, ◌≤◌, true, false, List, [], ◌∷◌, length, min, max, Option, Some, None, Result, Ok, refl, ap, arith, inl, inr, lit≤}
use Rattle.std.proofs.lemmas.Bool.{le-leb}
use Rattle.std.proofs.lemmas.Bool.Decides.{eqb_tells}
use Rattle.std.specs.Str.{bytes_eq}
use Rattle.dpe_base.specs.declared.TheConstants.{INPUT_CAP}
use Rattle.dpe_base.specs.declared.query.Rel.{Rel}
use Rattle.dpe_base.specs.declared.query.Pred.{Pred}
use Rattle.dpe_base.specs.Queries.{is_fraction}
use Rattle.query_json.specs.declared.file.Table.{Table as TableItem}
use Rattle.query_json.specs.declared.refusal.QueryRefusal.{QueryRefusal}
use Rattle.query_json.specs.declared.refusal.QueryRefusal.TheVariants.{UnknownAlias}
use Rattle.query_json.specs.Queries.{all_of, apart, checked, count_of, each_of, ends_of, filter_of, most_distinct, pred_of, rel_of, relation_number, table_named, table_of}
use Rattle.workload_gen.specs.declared.sample.Table.{Table}
use Rattle.workload_gen.specs.declared.sample.Relation.{Relation}
use Rattle.workload_gen.specs.Values.{alias, column_name, table_name}
use Rattle.workload_gen.proofs.FileOf.{join_item_by, numbered, ratio, relation_item, table_item}
use Rattle.workload_gen.proofs.Found.{IsNaming, at_its_place, found}
use Rattle.workload_gen.proofs.Names.{aliases_differ, tables_differ}
use Rattle.workload_gen.proofs.Valid.{Each, IsOneIn, IsRelation, IsTable}

pub table_naming : IsNaming 8 table_name (λ t. t.name) table_item
table_naming = record { named = λ k x. refl; differ = tables_differ }

pub alias_naming : IsNaming 12 alias (λ r. r.alias) relation_item
alias_naming = record { named = λ k x. refl; differ = aliases_differ }

-- ---- lists of parts

-- a fact of each part and what it gave
abbrev pub Both : {A B : Type 0} → (A → B → Type 0) → List A → List B → Type 0
Both Q [] [] = Unit {0}
Both Q [] (y ∷ ys) = ⊥
Both Q (x ∷ xs) [] = ⊥
Both Q (x ∷ xs) (y ∷ ys) = Q x y × Both Q xs ys

pub both_length : {A B : Type 0} (Q : A → B → Type 0) (xs : List A) (ys : List B) → Both Q xs ys → length ys ≡ length xs
both_length Q [] [] h = refl
both_length Q [] (y ∷ ys) h = absurd h
both_length Q (x ∷ xs) [] h = absurd h
both_length Q (x ∷ xs) (y ∷ ys) h = ap suc (both_length Q xs ys h.1)

pub checked_numbered : {A T B : Type 0} (f : T → Result B QueryRefusal) (make : ℕ → A → T) (P : A → Type 0)
    → ((k : ℕ) (x : A) → P x → (y : B) × (f (make k x) ≡ Ok y)) → (at : ℕ) (xs : List A) → Each P xs → checked f (numbered make at xs) ≡ Ok tt
checked_numbered f make P passes at [] h = refl
checked_numbered f make P passes at (x ∷ xs) h = rw (passes at x h.0).1 (checked_numbered f make P passes (at + 1) xs h.1)

pub all_numbered : {A T B : Type 0} (f : ℕ → T → Result B QueryRefusal) (make : ℕ → A → T) (P : A → Type 0) (Q : A → B → Type 0)
    → ((at k : ℕ) (x : A) → P x → (y : B) × (f at (make k x) ≡ Ok y) × Q x y) → (at : ℕ) (xs : List A) → Each P xs
    → (ys : List B) × (all_of f at (numbered make at xs) ≡ Ok ys) × Both Q xs ys
all_numbered f make P Q gives at [] h = ([], refl, tt)
all_numbered f make P Q gives at (x ∷ xs) h =
    let first = gives at at x h.0 in
    let rest = all_numbered f make P Q gives (at + 1) xs h.1 in
    (first.0 ∷ rest.0, rw (first.1, rest.1) refl, (first.2, rest.2))

pub each_numbered : {A T B : Type 0} (f : T → Result B QueryRefusal) (make : ℕ → A → T) (P : A → Type 0)
    → ((k : ℕ) (x : A) → P x → (y : B) × (f (make k x) ≡ Ok y)) → (xs : List A) → Each P xs
    → (ys : List B) × (each_of f (numbered make 0 xs) ≡ Ok ys) × Both (λ (x : A) (y : B). Unit {0}) xs ys
each_numbered f make P passes xs h =
    all_numbered (λ at. f) make P (λ x y. Unit {0}) (λ at k x p. let met = passes k x p in (met.0, met.1, tt)) 0 xs h

-- ---- relations

fraction_is : (num den : ℕ) → 1 ≤ num → num ≤ den → den ≤ INPUT_CAP → is_fraction num den ≡ true
fraction_is num den some within fits = rw (le-leb 1 num some, le-leb num den within, le-leb den INPUT_CAP fits) refl

table_known : (tables : List Table) → length tables ≡ 8 → Each IsTable tables → (t : ℕ) → t < 8
    → (x : Table) × (table_named (numbered table_item 0 tables) (table_name t) ≡ Some (table_item t x))
table_known tables eight each t within =
    let met = found 8 table_name (λ t. t.name) table_item table_naming IsTable t 0 tables (omega arith) (omega arith) (omega arith) each in
    (met.0, met.1)

pub table_of_ok : (tables : List Table) → length tables ≡ 8 → Each IsTable tables → (k : ℕ) (relation : Relation) → IsRelation relation
    → (y : TableItem) × (table_of (numbered table_item 0 tables) (relation_item k relation) ≡ Ok y)
table_of_ok tables eight each k relation h =
    let known = table_known tables eight each relation.table h.table in
    (table_item relation.table known.0, rw known.1 refl)

filter_ok : (at kept : ℕ) → 1 ≤ kept → kept ≤ 100 → filter_of at (Some (ratio kept 100)) ≡ Ok (ratio kept 100)
filter_ok at kept some most = rw (fraction_is kept 100 some most (lit≤ tt)) refl

pub rel_ok : (tables : List Table) → length tables ≡ 8 → Each IsTable tables → (at k : ℕ) (relation : Relation) → IsRelation relation
    → (y : Rel) × (rel_of (numbered table_item 0 tables) at (relation_item k relation) ≡ Ok y) × Unit {0}
unfolding rel_of
rel_ok tables eight each at k relation h =
    let known = table_of_ok tables eight each k relation h in
    (record { rows = known.0.rows; num = relation.kept; den = 100 }, rw (known.1, filter_ok at relation.kept h.kept_some h.kept) refl, tt)

-- ---- joins

number_ok : (relations : List Relation) → length relations ≤ 12 → (refusal : QueryRefusal) (k : ℕ) → k < length relations
    → relation_number (numbered relation_item 0 relations) refusal (alias k) ≡ Ok k
number_ok relations few refusal k within =
    rw (at_its_place 12 alias (λ r. r.alias) relation_item alias_naming k relations within few) refl

pub ends_by : (relations : List Relation) → length relations ≤ 12 → (left right : ℕ) (one_in : Option ℕ) → left < length relations → right < length relations
    → ends_of (numbered relation_item 0 relations) (join_item_by left right one_in) ≡ Ok (record { left = left; right = right })
ends_by relations few left right None l r =
    rw (number_ok relations few (UnknownAlias (alias left)) left l, number_ok relations few (UnknownAlias (alias right)) right r) refl
ends_by relations few left right (Some d) l r =
    rw (number_ok relations few (UnknownAlias (alias left)) left l, number_ok relations few (UnknownAlias (alias right)) right r) refl

differ : (left right : ℕ) → left < 12 → right < 12 → left ≢ right → bytes_eq (alias left) (alias right) ≡ false
differ left right l r ne = aliases_differ left l right r ∙ elim (eqb_tells left right) [ inl same ↦ absurd (ne same.1) | inr other ↦ other.0 ]

pub apart_by : (left right : ℕ) (one_in : Option ℕ) → left < 12 → right < 12 → left ≢ right → apart (join_item_by left right one_in) ≡ Ok tt
apart_by left right None l r ne = rw (differ left right l r ne) refl
apart_by left right (Some d) l r ne = rw (differ left right l r ne) refl

-- the column of a relation's table is known
count_ok : (tables : List Table) → length tables ≡ 8 → Each IsTable tables → (relations : List Relation) → length relations ≤ 12 → Each IsRelation relations
    → (k : ℕ) → k < length relations → (d : ℕ) × (count_of (numbered table_item 0 tables) (numbered relation_item 0 relations) (alias k) (Some column_name) ≡ Ok d)
count_ok tables eight each relations few rels k within =
    let relation = found 12 alias (λ r. r.alias) relation_item alias_naming IsRelation k 0 relations (omega arith) (omega arith) (omega arith) rels in
    let table = table_known tables eight each relation.0.table relation.2.table in
    (table.0.distinct, rw (relation.1, table.1) refl)

pub distinct_by : (tables : List Table) → length tables ≡ 8 → Each IsTable tables → (relations : List Relation) → length relations ≤ 12 → Each IsRelation relations
    → (left right : ℕ) (one_in : Option ℕ) → left < length relations → right < length relations
    → (d : ℕ) × (most_distinct (numbered table_item 0 tables) (numbered relation_item 0 relations) (join_item_by left right one_in) ≡ Ok d)
unfolding most_distinct
distinct_by tables eight each relations few rels left right None l r =
    let first = count_ok tables eight each relations few rels left l in
    let second = count_ok tables eight each relations few rels right r in
    (max 1 (max first.0 second.0), rw (first.1, second.1) refl)
distinct_by tables eight each relations few rels left right (Some d) l r = (1, refl)

-- the predicate of a join lies between its relations
abbrev pub HasEnds : ℕ → ℕ → Pred → Type 0
HasEnds left right p = (p.low ≡ min left right) × (p.high ≡ max left right)

pub pred_by : (tables : List Table) → length tables ≡ 8 → Each IsTable tables → (relations : List Relation) → length relations ≤ 12 → Each IsRelation relations
    → (at left right : ℕ) (one_in : Option ℕ) → left < length relations → right < length relations → IsOneIn one_in
    → (p : Pred) × (pred_of (numbered table_item 0 tables) (numbered relation_item 0 relations) at (join_item_by left right one_in) ≡ Ok p) × HasEnds left right p
unfolding pred_of
pred_by tables eight each relations few rels at left right None l r is =
    let d = distinct_by tables eight each relations few rels left right None l r in
    (record { low = min left right; high = max left right; num = 1; den = d.0 }, rw (ends_by relations few left right None l r, d.1) refl, (refl, refl))
pred_by tables eight each relations few rels at left right (Some d) l r is = (
  record { low = min left right; high = max left right; num = 1; den = d },
  rw (ends_by relations few left right (Some d) l r, (distinct_by tables eight each relations few rels left right (Some d) l r).1, fraction_is 1 d (lit≤ tt) is.0 (omega (arith, is.1))) refl,
  (refl, refl),
)
