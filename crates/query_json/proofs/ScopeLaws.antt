-- What was found for the relations and the joins of a query is what the definition looks up.
use Rattle.std.proofs.Common.{◌≡◌, ◌∙◌, ℕ, suc, zero, ◌<◌, List, [], ◌∷◌, length, get_or, map, position, find, Some, Result, Ok, refl, sym, ap}
use Rattle.std.specs.Prelude.{option_and_then, slice_get}
use Rattle.std.specs.Borrow.{Bor}
use Rattle.std.specs.Str.{bytes_eq}
use Rattle.std.proofs.lemmas.List.{length-map}
use Rattle.std.proofs.lemmas.List.Quantifiers.{position-Some}
use Rattle.std.proofs.lemmas.Option.{slice_get-get_or}
use Rattle.dpe_base.specs.declared.query.Rel.{Rel}
use Rattle.dpe_base.specs.declared.query.Pred.{Pred}
use Rattle.query_json.specs.declared.file.Table.{Table}
use Rattle.query_json.specs.declared.file.RelationItem.{RelationItem}
use Rattle.query_json.specs.declared.file.JoinItem.{JoinItem}
use Rattle.query_json.specs.declared.refusal.QueryRefusal.{QueryRefusal}
use Rattle.query_json.specs.declared.refusal.QueryRefusal.TheVariants.{UnknownAlias, UnknownTable}
use Rattle.query_json.specs.declared.query.scope.Ends.{Ends}
use Rattle.query_json.specs.Columns.{distinct_in}
use Rattle.query_json.specs.Queries.{count_named, each_of, ends_of, most_distinct, pred_of, pred_over, rel_of, rel_over, relation_number, table_named, table_of}
use Rattle.query_json.proofs.Binds.{bind_ok, ok_same}
use Rattle.query_json.proofs.Finds.{find_by}
use Rattle.query_json.proofs.Passes.{each_from, length-all_of}
use Rattle.query_json.proofs.QueryLaws.{found_some, no_relation}

pub now_at : {T : Type 0} (ts : List (Bor T)) (i : ℕ) (t : Bor T) → t ≡ get_or ts i t → t.now ≡ get_or (map (λ x. x.now) ts) i t.now
now_at ts i t is = ap (λ x. x.now) is ∙ inside ts i t
  where
    inside : {T : Type 0} (ts : List (Bor T)) (i : ℕ) (t : Bor T) → (get_or ts i t).now ≡ get_or (map (λ x. x.now) ts) i t.now
    inside [] i t = refl
    inside (x ∷ ts) zero t = refl
    inside (x ∷ ts) (suc i) t = inside ts i t

-- there is a table for each relation
pub known_length : (ts : List Table) (rs : List RelationItem) (known : List (Bor Table)) → each_of (table_of ts) rs ≡ Ok (map (λ t. t.now) known) → length known ≡ length rs
known_length ts rs known e = sym (length-map known (λ (t : Bor Table). t.now)) ∙ length-all_of (λ at. table_of ts) 0 rs (map (λ t. t.now) known) e

-- an alias of the query has a number below that of its relations
pub alias_known : (rs : List RelationItem) (alias : List ℕ) (n : ℕ) → position (λ r. bytes_eq alias r.alias) rs ≡ Some n → n < length rs
alias_known rs alias n at = (position-Some (λ r. bytes_eq alias r.alias) rs n no_relation at).0

-- the columns of an alias are those of the table that was found
pub count_at : (ts : List Table) (rs : List RelationItem) (known : List Table) (alias column : List ℕ) (n : ℕ) (t : Table) → each_of (table_of ts) rs ≡ Ok known
    → position (λ r. bytes_eq alias r.alias) rs ≡ Some n → t ≡ get_or known n t → count_named ts rs alias column ≡ distinct_in column t.columns
count_at ts rs known alias column n t e at is =
    let here : n < length rs = alias_known rs alias n at in
    let r : RelationItem = get_or rs n no_relation in
    let first : find (λ x. bytes_eq alias x.alias) rs ≡ Some r = find_by (λ x. bytes_eq alias x.alias) rs ∙ ap (option_and_then (slice_get rs)) at ∙ slice_get-get_or rs n no_relation here in
    let table : table_of ts r ≡ Ok t = each_from (table_of ts) 0 rs known n no_relation t e here ∙ ap Ok (sym is) in
    let named : table_named ts r.table ≡ Some t = found_some (UnknownTable r.table) (table_named ts r.table) t table in
    rw (first, named) refl

pub rel_known : (ts : List Table) (at : ℕ) (r : RelationItem) (t : Table) (result : Result Rel QueryRefusal) → table_of ts r ≡ Ok t → rel_over t at r ≡ result → rel_of ts at r ≡ result
unfolding rel_of
rel_known ts at r t result e is = rw e is

pub pred_known : (ts : List Table) (rs : List RelationItem) (at : ℕ) (j : JoinItem) (ends : Ends) (d : ℕ) (result : Result Pred QueryRefusal)
    → ends_of rs j ≡ Ok ends → most_distinct ts rs j ≡ Ok d → pred_over ends d at j ≡ result → pred_of ts rs at j ≡ result
unfolding pred_of
pred_known ts rs at j ends d result e m is = rw (e, m) is

-- the numbers at a join's ends are those of its aliases
pub record AreEnds (rs : List RelationItem) (j : JoinItem) (ends : Ends) : Type 0 where
  pub left : position (λ r. bytes_eq j.left r.alias) rs ≡ Some ends.left
  pub right : position (λ r. bytes_eq j.right r.alias) rs ≡ Some ends.right

pub are_ends : (rs : List RelationItem) (j : JoinItem) (ends : Ends) → ends_of rs j ≡ Ok ends → AreEnds rs j ends
are_ends rs j ends e =
    let l = bind_ok (relation_number rs (UnknownAlias j.left) j.left) _ ends e in
    let r = bind_ok (relation_number rs (UnknownAlias j.right) j.right) _ ends l.2 in
    let both : Ends = record { left = l.0; right = r.0 } in
    let same : both ≡ ends = ok_same both ends r.2 in
    record {
      left = found_some (UnknownAlias j.left) (position (λ x. bytes_eq j.left x.alias) rs) l.0 l.1 ∙ ap (λ (x : Ends). Some x.left) same;
      right = found_some (UnknownAlias j.right) (position (λ x. bytes_eq j.right x.alias) rs) r.0 r.1 ∙ ap (λ (x : Ends). Some x.right) same;
    }
