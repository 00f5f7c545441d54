-- The nine causes that refuse a query, each in its own words, and their order.
use Rattle.std.specs.Prelude.{◌≡◌, ℕ, ◌<◌, ◌⊎◌, ◌||◌, not, length, map, take, slice_get, Bool, true, false, if◌then◌else◌, List, [], Option, Some, None, Ok, is_some}
use Rattle.std.specs.Str.{bytes_eq}
use Rattle.std.specs.List.{list_any}
use Rattle.dpe_base.specs.declared.TheConstants.{N_MAX}
use Rattle.dpe_base.specs.Queries.{JoinQuery, is_fraction}
use Rattle.join_graph.specs.Graphs.{IsFirstUnreached, graph_of}
use Rattle.query_json.specs.declared.file.Table.{Table}
use Rattle.query_json.specs.declared.file.Ratio.{Ratio}
use Rattle.query_json.specs.declared.file.RelationItem.{RelationItem}
use Rattle.query_json.specs.declared.file.JoinItem.{JoinItem}
use Rattle.query_json.specs.declared.file.QueryItem.{QueryItem}
use Rattle.query_json.specs.declared.refusal.FracPlace.TheVariants as place
use Rattle.query_json.specs.declared.refusal.QueryRefusal.{QueryRefusal}
use Rattle.query_json.specs.declared.refusal.QueryRefusal.TheVariants.{NoRelations, TooManyRelations, DuplicateAlias, UnknownTable, UnknownAlias, UnknownColumn, SelfJoin, BadFraction, Disconnected}
use Rattle.query_json.specs.Queries.{alias_at, count_named, query_of, table_named}

-- a cause, by the refusals that it gives
abbrev pub Cause : Type 1
Cause = QueryRefusal → Type 0

abbrev pub Never : Cause → Type 0
Never cause = (why : QueryRefusal) → cause why → ⊥

-- the first cause, or the second where the first is never there
infixr 5 ◌otherwise◌
abbrev pub ◌otherwise◌ : Cause → Cause → Cause
(first otherwise second) why = first why ⊎ (Never first × second why)

-- ---- names

-- a name is one of these
abbrev pub is_among : List ℕ → List (List ℕ) → Bool
is_among name names = list_any (bytes_eq name) names

-- at place k stands a name that an earlier place has too, and at no place before k does one
pub record IsFirstRepeat (names : List (List ℕ)) (name : List ℕ) (k : ℕ) : Type 0 where
  pub here : slice_get names k ≡ Some name
  pub again : is_among name (take k names) ≡ true
  pub first : (i : ℕ) (n : List ℕ) → i < k → slice_get names i ≡ Some n → is_among n (take i names) ≡ false

-- at place k stands x, which passes the test, and nothing before it does
pub record IsFirstWith {A : Type 0} (test : A → Bool) (xs : List A) (x : A) (k : ℕ) : Type 0 where
  pub here : slice_get xs k ≡ Some x
  pub passes : test x ≡ true
  pub first : (i : ℕ) (y : A) → i < k → slice_get xs i ≡ Some y → test y ≡ false

-- ---- relations

abbrev pub HasNoRelations : QueryItem → Cause
HasNoRelations q why = (length q.relations ≡ 0) × (why ≡ NoRelations)

abbrev pub HasTooManyRelations : QueryItem → Cause
HasTooManyRelations q why = (N_MAX < length q.relations) × (why ≡ TooManyRelations (length q.relations))

abbrev pub HasAnAliasTwice : QueryItem → Cause
HasAnAliasTwice q why = (k : ℕ) × (alias : List ℕ) × IsFirstRepeat (map (λ r. r.alias) q.relations) alias k × (why ≡ DuplicateAlias alias)

-- no table of the file has the name that the relation gives
abbrev pub is_of_no_table : List Table → RelationItem → Bool
is_of_no_table tables r = not (is_some (table_named tables r.table))

abbrev pub HasAnUnknownTable : List Table → QueryItem → Cause
HasAnUnknownTable tables q why = (k : ℕ) × (r : RelationItem) × IsFirstWith (is_of_no_table tables) q.relations r k × (why ≡ UnknownTable r.table)

-- ---- joins

abbrev pub is_no_alias : List RelationItem → List ℕ → Bool
is_no_alias rs alias = not (is_among alias (map (λ r. r.alias) rs))

abbrev pub has_unknown_end : List RelationItem → JoinItem → Bool
has_unknown_end rs j = is_no_alias rs j.left || is_no_alias rs j.right

-- the left end of a join, or the right one where the left one is known
abbrev pub unknown_end : List RelationItem → JoinItem → List ℕ
unknown_end rs j = if is_no_alias rs j.left then j.left else j.right

abbrev pub HasAnUnknownAlias : QueryItem → Cause
HasAnUnknownAlias q why = (k : ℕ) × (j : JoinItem) × IsFirstWith (has_unknown_end q.relations) q.joins j k × (why ≡ UnknownAlias (unknown_end q.relations j))

-- a column is given that the table of the alias doesn't have
abbrev pub lacks_column : List Table → List RelationItem → List ℕ → Option (List ℕ) → Bool
lacks_column tables rs alias None = false
lacks_column tables rs alias (Some column) = not (is_some (count_named tables rs alias column))

abbrev pub has_unknown_column : List Table → List RelationItem → JoinItem → Bool
has_unknown_column tables rs j = lacks_column tables rs j.left j.left_column || lacks_column tables rs j.right j.right_column

abbrev pub or_empty : Option (List ℕ) → List ℕ
or_empty None = []
or_empty (Some name) = name

-- the left end and its column, or the right ones where the left column is known or not given
abbrev pub unknown_column : List Table → List RelationItem → JoinItem → QueryRefusal
unknown_column tables rs j = if lacks_column tables rs j.left j.left_column then UnknownColumn j.left (or_empty j.left_column) else UnknownColumn j.right (or_empty j.right_column)

abbrev pub HasAnUnknownColumn : List Table → QueryItem → Cause
HasAnUnknownColumn tables q why = (k : ℕ) × (j : JoinItem) × IsFirstWith (has_unknown_column tables q.relations) q.joins j k × (why ≡ unknown_column tables q.relations j)

abbrev pub is_self_join : JoinItem → Bool
is_self_join j = bytes_eq j.left j.right

abbrev pub HasASelfJoin : QueryItem → Cause
HasASelfJoin q why = (k : ℕ) × (j : JoinItem) × IsFirstWith is_self_join q.joins j k × (why ≡ SelfJoin j.left)

-- ---- fractions

abbrev pub is_bad : Option Ratio → Bool
is_bad None = false
is_bad (Some r) = not (is_fraction r.num r.den)

abbrev pub HasABadFilter : QueryItem → Cause
HasABadFilter q why = (k : ℕ) × (r : RelationItem) × IsFirstWith (λ (x : RelationItem). is_bad x.filter) q.relations r k × (why ≡ BadFraction (place.Relation k))

abbrev pub HasABadSelectivity : QueryItem → Cause
HasABadSelectivity q why = (k : ℕ) × (j : JoinItem) × IsFirstWith (λ (x : JoinItem). is_bad x.selectivity) q.joins j k × (why ≡ BadFraction (place.Join k))

abbrev pub HasABadFraction : QueryItem → Cause
HasABadFraction q = HasABadFilter q otherwise HasABadSelectivity q

-- ---- the whole query

-- some relation is the least that no walk along the joins reaches from the first one
abbrev pub IsDisconnected : List Table → QueryItem → Cause
IsDisconnected tables q why =
    (query : JoinQuery) × (r : ℕ) × (query_of tables q ≡ Ok query) × IsFirstUnreached (graph_of query) r × (why ≡ Disconnected (alias_at q.relations r))

-- the nine causes in their order
abbrev pub Refusing : List Table → QueryItem → Cause
Refusing tables q =
    HasNoRelations q
    otherwise HasTooManyRelations q
    otherwise HasAnAliasTwice q
    otherwise HasAnUnknownTable tables q
    otherwise HasAnUnknownAlias q
    otherwise HasAnUnknownColumn tables q
    otherwise HasASelfJoin q
    otherwise HasABadFraction q
    otherwise IsDisconnected tables q
