-- A query is refused pass by pass, and each pass refuses its least place.
use Rattle.std.specs.Prelude.{ℕ, [], ◌∷◌, ◌≡◌, ◌↔◌, ◌<◌, List, Some, Ok, Err, slice_get, Result}
use Rattle.query_json.specs.declared.file.QueryItem.{QueryItem}
use Rattle.query_json.specs.declared.file.Table.{Table}
use Rattle.query_json.specs.declared.refusal.QueryRefusal.{QueryRefusal}
use Rattle.query_json.specs.Queries.{aliases_of, all_of, apart, checked, each_of, ends_of, most_distinct, pred_of, rel_of, sized, table_of}

-- the member at place k is refused, and none before it
pub record IsFirstRefused {A B : Type 0} (f : ℕ → A → Result B QueryRefusal) (xs : List A) (why : QueryRefusal) (k : ℕ) : Type 0 where
  pub refused : (x : A) × (slice_get xs k ≡ Some x) × (f k x ≡ Err why)
  pub first : (i : ℕ) (x : A) → i < k → slice_get xs i ≡ Some x → (y : B) × (f i x ≡ Ok y)

-- each pass over the relations or the joins of a query refuses exactly what its least refused member is refused for
pub record RefusesTheLeastPlace (tables : List Table) (q : QueryItem) (why : QueryRefusal) : Type 0 where
  pub known_tables : (each_of (table_of tables) q.relations ≡ Err why) ↔ ((k : ℕ) × IsFirstRefused (λ at. table_of tables) q.relations why k)
  pub aliases : (each_of (ends_of q.relations) q.joins ≡ Err why) ↔ ((k : ℕ) × IsFirstRefused (λ at. ends_of q.relations) q.joins why k)
  pub columns : (each_of (most_distinct tables q.relations) q.joins ≡ Err why) ↔ ((k : ℕ) × IsFirstRefused (λ at. most_distinct tables q.relations) q.joins why k)
  pub two_ends : (checked apart q.joins ≡ Err why) ↔ ((k : ℕ) × IsFirstRefused (λ at. apart) q.joins why k)
  pub filters : (all_of (rel_of tables) 0 q.relations ≡ Err why) ↔ ((k : ℕ) × IsFirstRefused (rel_of tables) q.relations why k)
  pub selectivities : (all_of (pred_of tables q.relations) 0 q.joins ≡ Err why) ↔ ((k : ℕ) × IsFirstRefused (pred_of tables q.relations) q.joins why k)

-- whether a pass refuses, whatever it finds
abbrev pub done : {A : Type 0} → Result A QueryRefusal → Result (Unit {0}) QueryRefusal
done (Ok x) = Ok tt
done (Err why) = Err why

-- the passes over a query in their order: the number of its relations, aliases that stand twice, tables, the ends of joins, their
-- columns, joins of a relation with itself, filters and selectivities
abbrev pub passes : List Table → QueryItem → List (Result (Unit {0}) QueryRefusal)
passes tables q =
    done (sized q.relations)
    ∷ done (aliases_of q.relations)
    ∷ done (each_of (table_of tables) q.relations)
    ∷ done (each_of (ends_of q.relations) q.joins)
    ∷ done (each_of (most_distinct tables q.relations) q.joins)
    ∷ done (checked apart q.joins)
    ∷ done (all_of (rel_of tables) 0 q.relations)
    ∷ done (all_of (pred_of tables q.relations) 0 q.joins)
    ∷ []
