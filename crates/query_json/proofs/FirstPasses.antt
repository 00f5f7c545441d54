-- A query is refused by the first pass that refuses it.
use Rattle.std.proofs.Common.{◌≡◌, ◌↔◌, ℕ, ◌+◌, List, [], ◌∷◌, Result, Ok, Err, refl, ap}
use Rattle.query_json.specs.declared.file.QueryItem.{QueryItem}
use Rattle.query_json.specs.declared.file.Table.{Table}
use Rattle.query_json.specs.declared.refusal.QueryRefusal.{QueryRefusal}
use Rattle.query_json.specs.Answer.{◌>>=◌}
use Rattle.query_json.specs.Laws.{IsFirstRefused, done, passes}
use Rattle.query_json.specs.Queries.{aliases_of, all_of, apart, checked, each_of, ends_of, most_distinct, pred_of, query_of, rel_of, sized, table_of}
use Rattle.query_json.proofs.LeastPlaces.{err_same, least, rest_refused}

abbrev pass : ℕ → Result (Unit {0}) QueryRefusal → Result (Unit {0}) QueryRefusal
pass at p = p

not_both : {X Y : Type 0} (x : X) (why : QueryRefusal) → ◌≡◌ {A = Result X QueryRefusal} (Ok x) (Err why) → Y
not_both x why e = absurd cc

-- one pass more in front
one_pass : {A B : Type 0} (r : Result A QueryRefusal) (rest : A → Result B QueryRefusal) (later : List (Result (Unit {0}) QueryRefusal)) (at : ℕ) (why : QueryRefusal)
    → ((x : A) → r ≡ Ok x → (rest x ≡ Err why) ↔ (all_of pass (at + 1) later ≡ Err why)) → ((r >>= rest) ≡ Err why) ↔ (all_of pass at (done r ∷ later) ≡ Err why)
one_pass (Ok x) rest later at why h =
    let both = h x refl in
    (λ e. rw (both.0 e) refl, λ e. both.1 (rest_refused tt (all_of pass (at + 1) later) why e))
one_pass (Err z) rest later at why h = (λ e. ap Err (err_same z why e), λ e. ap Err (err_same z why e))

in_order : (tables : List Table) (q : QueryItem) (why : QueryRefusal) → (query_of tables q ≡ Err why) ↔ (all_of pass 0 (passes tables q) ≡ Err why)
unfolding query_of
in_order tables q why =
    let from_preds : List (Result (Unit {0}) QueryRefusal) = done (all_of (pred_of tables q.relations) 0 q.joins) ∷ [] in
    let from_rels : List (Result (Unit {0}) QueryRefusal) = done (all_of (rel_of tables) 0 q.relations) ∷ from_preds in
    let from_two_ends : List (Result (Unit {0}) QueryRefusal) = done (checked apart q.joins) ∷ from_rels in
    let from_known_columns : List (Result (Unit {0}) QueryRefusal) = done (each_of (most_distinct tables q.relations) q.joins) ∷ from_two_ends in
    let from_known_aliases : List (Result (Unit {0}) QueryRefusal) = done (each_of (ends_of q.relations) q.joins) ∷ from_known_columns in
    let from_known_tables : List (Result (Unit {0}) QueryRefusal) = done (each_of (table_of tables) q.relations) ∷ from_known_aliases in
    let from_aliases : List (Result (Unit {0}) QueryRefusal) = done (aliases_of q.relations) ∷ from_known_tables in
    one_pass (sized q.relations) _ from_aliases 0 why (λ size a.
    one_pass (aliases_of q.relations) _ from_known_tables 1 why (λ aliases b.
    one_pass (each_of (table_of tables) q.relations) _ from_known_aliases 2 why (λ known_tables c.
    one_pass (each_of (ends_of q.relations) q.joins) _ from_known_columns 3 why (λ known_aliases d.
    one_pass (each_of (most_distinct tables q.relations) q.joins) _ from_two_ends 4 why (λ known_columns e.
    one_pass (checked apart q.joins) _ from_rels 5 why (λ two_ends f.
    one_pass (all_of (rel_of tables) 0 q.relations) _ from_preds 6 why (λ rels g.
    one_pass (all_of (pred_of tables q.relations) 0 q.joins) _ [] 7 why (λ preds h. (λ i. not_both _ why i, λ i. not_both _ why i)))))))))

pub first_pass : (tables : List Table) (q : QueryItem) (why : QueryRefusal)
    → (query_of tables q ≡ Err why) ↔ ((k : ℕ) × IsFirstRefused (λ at (pass : Result (Unit {0}) QueryRefusal). pass) (passes tables q) why k)
first_pass tables q why =
    let order = in_order tables q why in
    let both = least pass (passes tables q) why in
    (λ e. both.0 (order.0 e), λ h. order.1 (both.1 h))
