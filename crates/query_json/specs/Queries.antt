-- What a query of the file means, and what it is refused for: the first cause in order, and in it the least index.
pub mod Causes
pub mod Scope
pub mod Unreached
use Rattle.std.specs.Prelude.{ℕ, ◌+◌, ◌==◌, min, max, List, [], ◌∷◌, length, map, find, position, slice_get, nat_lt, if◌then◌else◌, Option, Some, None, option_and_then, Result, Ok, Err}
use Rattle.std.specs.Str.{bytes_eq}
use Rattle.dpe_base.specs.declared.TheConstants.{N_MAX}
use Rattle.dpe_base.specs.declared.query.Rel.{Rel}
use Rattle.dpe_base.specs.declared.query.Pred.{Pred}
use Rattle.dpe_base.specs.Queries.{JoinQuery, is_fraction}
use Rattle.query_json.specs.declared.entry.Named.{Named}
use Rattle.query_json.specs.declared.file.Table.{Table}
use Rattle.query_json.specs.declared.file.Ratio.{Ratio}
use Rattle.query_json.specs.declared.file.RelationItem.{RelationItem}
use Rattle.query_json.specs.declared.file.JoinItem.{JoinItem}
use Rattle.query_json.specs.declared.file.QueryItem.{QueryItem}
use Rattle.query_json.specs.declared.refusal.FracPlace.{FracPlace}
use Rattle.query_json.specs.declared.refusal.FracPlace.TheVariants as place
use Rattle.query_json.specs.declared.refusal.QueryRefusal.{QueryRefusal}
use Rattle.query_json.specs.declared.refusal.QueryRefusal.TheVariants.{NoRelations, TooManyRelations, DuplicateAlias, UnknownTable, UnknownAlias, UnknownColumn, SelfJoin, BadFraction, Disconnected}
use Rattle.query_json.specs.declared.query.scope.Ends.{Ends}
use Rattle.query_json.specs.Answer.{◌>>=◌}
use Rattle.query_json.specs.Columns.{distinct_in}
use Rattle.query_json.specs.Names.{distinct_names}
use Rattle.query_json.specs.Queries.Unreached.{first_unreached}

-- what each member gives, in turn and by its number, or the first refusal
abbrev pub all_of : {A B : Type 0} → (ℕ → A → Result B QueryRefusal) → ℕ → List A → Result (List B) QueryRefusal
all_of f at [] = Ok []
all_of f at (x ∷ xs) = f at x >>= λ y. all_of f (at + 1) xs >>= λ ys. Ok (y ∷ ys)

-- the same of what does not depend on the number
abbrev pub each_of : {A B : Type 0} → (A → Result B QueryRefusal) → List A → Result (List B) QueryRefusal
each_of f = all_of (λ at. f) 0

-- no member is refused, or the first refusal
abbrev pub checked : {A B : Type 0} → (A → Result B QueryRefusal) → List A → Result (Unit {0}) QueryRefusal
checked f [] = Ok tt
checked f (x ∷ xs) = f x >>= λ y. checked f xs

abbrev pub found : {A : Type 0} → QueryRefusal → Option A → Result A QueryRefusal
found refusal None = Err refusal
found refusal (Some x) = Ok x

-- ---- relations

abbrev pub sized : List RelationItem → Result (Unit {0}) QueryRefusal
sized rs = if length rs == 0 then Err NoRelations else (if nat_lt N_MAX (length rs) then Err (TooManyRelations (length rs)) else Ok tt)

abbrev pub or_alias_twice : Result (List (List ℕ)) (List ℕ) → Result (List (List ℕ)) QueryRefusal
or_alias_twice (Ok names) = Ok names
or_alias_twice (Err name) = Err (DuplicateAlias name)

abbrev pub aliases_of : List RelationItem → Result (List (List ℕ)) QueryRefusal
aliases_of rs = or_alias_twice (distinct_names (λ r. r.alias) rs)

abbrev pub table_named : List Table → List ℕ → Option Table
table_named tables name = find (λ t. bytes_eq name t.name) tables

abbrev pub table_of : List Table → RelationItem → Result Table QueryRefusal
table_of tables r = found (UnknownTable r.table) (table_named tables r.table)

abbrev pub fraction_at : FracPlace → Ratio → Result Ratio QueryRefusal
fraction_at place r = if is_fraction r.num r.den then Ok r else Err (BadFraction place)

-- the fraction that a filter keeps: all where there is none
abbrev pub filter_of : ℕ → Option Ratio → Result Ratio QueryRefusal
filter_of at None = Ok (record { num = 1; den = 1 })
filter_of at (Some r) = fraction_at (place.Relation at) r

-- the relation has its table's rows and its filter's fraction
abbrev pub rel_over : Table → ℕ → RelationItem → Result Rel QueryRefusal
rel_over table at r = filter_of at r.filter >>= λ kept. Ok (record { rows = table.rows; num = kept.num; den = kept.den })

unfoldable pub rel_of : List Table → ℕ → RelationItem → Result Rel QueryRefusal
rel_of tables at r = do
  table ← table_of tables r
  rel_over table at r

-- ---- joins

abbrev pub relation_number : List RelationItem → QueryRefusal → List ℕ → Result ℕ QueryRefusal
relation_number rs refusal alias = found refusal (position (λ r. bytes_eq alias r.alias) rs)

-- the numbers of the relations at a join's ends
abbrev pub ends_of : List RelationItem → JoinItem → Result Ends QueryRefusal
ends_of rs j = do
  left ← relation_number rs (UnknownAlias j.left) j.left
  right ← relation_number rs (UnknownAlias j.right) j.right
  Ok (record { left = left; right = right })

-- the distinct count of a column of the table that an alias stands for
abbrev pub count_named : List Table → List RelationItem → List ℕ → List ℕ → Option ℕ
count_named tables rs alias column =
    option_and_then (λ r. option_and_then (λ t. distinct_in column t.columns) (table_named tables r.table)) (find (λ r. bytes_eq alias r.alias) rs)

-- the distinct count of the column at a join's end: 1 where none is given
abbrev pub count_of : List Table → List RelationItem → List ℕ → Option (List ℕ) → Result ℕ QueryRefusal
count_of tables rs alias None = Ok 1
count_of tables rs alias (Some column) = found (UnknownColumn alias column) (count_named tables rs alias column)

-- the greatest of 1 and the distinct counts of a join's columns
unfoldable pub most_distinct : List Table → List RelationItem → JoinItem → Result ℕ QueryRefusal
most_distinct tables rs j = do
  left ← count_of tables rs j.left j.left_column
  right ← count_of tables rs j.right j.right_column
  Ok (max 1 (max left right))

abbrev pub apart : JoinItem → Result (Unit {0}) QueryRefusal
apart j = if bytes_eq j.left j.right then Err (SelfJoin j.left) else Ok tt

-- the fraction that a join keeps: its selectivity, or one of as many as the columns have distinct values
abbrev pub selectivity_over : ℕ → ℕ → Option Ratio → Result Ratio QueryRefusal
selectivity_over distinct at None = Ok (record { num = 1; den = distinct })
selectivity_over distinct at (Some r) = fraction_at (place.Join at) r

-- the join lies between the relations at its ends
abbrev pub pred_over : Ends → ℕ → ℕ → JoinItem → Result Pred QueryRefusal
pred_over ends distinct at j =
    selectivity_over distinct at j.selectivity
    >>= λ kept. Ok (record { low = min ends.left ends.right; high = max ends.left ends.right; num = kept.num; den = kept.den })

unfoldable pub pred_of : List Table → List RelationItem → ℕ → JoinItem → Result Pred QueryRefusal
pred_of tables rs at j = do
  ends ← ends_of rs j
  distinct ← most_distinct tables rs j
  pred_over ends distinct at j

-- ---- the query

abbrev pub alias_at : List RelationItem → ℕ → List ℕ
alias_at rs r = elim (slice_get rs r) [ None ↦ [] | Some x ↦ x.alias ]

abbrev pub or_disconnected : List RelationItem → Option ℕ → Result (Unit {0}) QueryRefusal
or_disconnected rs None = Ok tt
or_disconnected rs (Some r) = Err (Disconnected (alias_at rs r))

-- the relations are known, the joins are known, and the fractions are fractions
unfoldable pub query_of : List Table → QueryItem → Result JoinQuery QueryRefusal
query_of tables q = do
  size ← sized q.relations
  aliases ← aliases_of q.relations
  known_tables ← each_of (table_of tables) q.relations
  known_aliases ← each_of (ends_of q.relations) q.joins
  known_columns ← each_of (most_distinct tables q.relations) q.joins
  two_ends ← checked apart q.joins
  rels ← all_of (rel_of tables) 0 q.relations
  preds ← all_of (pred_of tables q.relations) 0 q.joins
  Ok (record { rels = rels; preds = preds })

abbrev pub named : QueryItem → JoinQuery → Named
named item query = record { query = query; aliases = map (λ r. r.alias) item.relations }

-- a query over the tables of the file, with its aliases
unfoldable pub named_of : List Table → QueryItem → Result Named QueryRefusal
named_of tables item = do
  query ← query_of tables item
  connected ← or_disconnected item.relations (first_unreached query)
  Ok (named item query)
