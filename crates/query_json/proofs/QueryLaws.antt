-- What is made of a query's items without a refusal is a query within the limits.
use Rattle.std.proofs.Common.{◌≡◌, ◌≢◌, ◌∙◌, ℕ, ◌+◌, ◌<◌, ◌≤◌, min, max, Bool, true, not, List, [], ◌∷◌, length, get_or, All, Result, Ok, Err, Option, Some, None, IfErr, IsOk, rules, position, find, arith, refl, sym, ap, subst, inl, inr}
use Rattle.std.specs.Prelude.{option_and_then}
use Rattle.std.specs.List.{list_all, prefix_len}
use Rattle.std.specs.Str.{bytes_eq}
use Rattle.std.proofs.lemmas.Bool.{cases_Bool, and_parts, le-leb, lt-ltb, le-ltb, ne_eqb}
use Rattle.std.proofs.lemmas.Bool.Decides.{nat_tests}
use Rattle.std.proofs.lemmas.Option.{option_and_then_some, same_Some}
use Rattle.std.proofs.lemmas.Slice.Eq.{bytes_eq-Decides}
use Rattle.std.proofs.lemmas.List.Quantifiers.{position-Some}
use Rattle.std.proofs.lemmas.List.Elements.{All-head, All-tail}
use Rattle.dpe_base.specs.declared.TheConstants.{INPUT_CAP, N_MAX, PREDS_MAX}
use Rattle.dpe_base.specs.declared.query.Rel.{Rel}
use Rattle.dpe_base.specs.declared.query.Pred.{Pred}
use Rattle.dpe_base.specs.declared.query.QueryFault.{QueryFault}
use Rattle.dpe_base.specs.Queries.{JoinQuery, IsQuery, is_fraction, is_pred, is_rel, query_fault, relations}
use Rattle.dpe_base.proofs.QueryLaws.{every_pass}
use Rattle.query_json.specs.declared.file.Table.{Table}
use Rattle.query_json.specs.declared.file.Column.{Column}
use Rattle.query_json.specs.declared.file.Ratio.{Ratio}
use Rattle.query_json.specs.declared.file.RelationItem.{RelationItem}
use Rattle.query_json.specs.declared.file.JoinItem.{JoinItem}
use Rattle.query_json.specs.declared.file.QueryItem.{QueryItem}
use Rattle.query_json.specs.declared.refusal.FracPlace.{FracPlace}
use Rattle.query_json.specs.declared.refusal.FracPlace.TheVariants as place
use Rattle.query_json.specs.declared.refusal.QueryRefusal.{QueryRefusal}
use Rattle.query_json.specs.declared.refusal.QueryRefusal.TheVariants.{BadFraction, SelfJoin, UnknownAlias, UnknownColumn}
use Rattle.query_json.specs.declared.query.scope.Ends.{Ends}
use Rattle.query_json.specs.Columns.{distinct_in}
use Rattle.query_json.specs.Walk.Limits.{IsColumnWithin, IsQueryWithin, IsTableWithin}
use Rattle.query_json.specs.Queries.{aliases_of, all_of, apart, checked, count_named, count_of, each_of, ends_of, filter_of, found, fraction_at, most_distinct, pred_of, query_of, rel_of, relation_number, selectivity_over, sized, table_named, table_of}
use Rattle.query_json.proofs.Binds.{bind_ok, ok_same}
use Rattle.query_json.proofs.Passes.{length-all_of}

-- what passes of each member that is not refused passes of all
all_pass : {A B C : Type 0} (test : B → Bool) (f : ℕ → A → Result B QueryRefusal) (g : A → Result C QueryRefusal) → ((at : ℕ) (x : A) (y : B) (z : C) → g x ≡ Ok z → f at x ≡ Ok y → test y ≡ true) → (at : ℕ) (xs : List A) (ys : List B) → checked g xs ≡ Ok tt → all_of f at xs ≡ Ok ys → list_all test ys ≡ true
all_pass test f g h at [] ys c e = subst (λ l. list_all test l ≡ true) (ok_same [] ys e) refl
all_pass test f g h at (x ∷ xs) ys c e =
    let ok = bind_ok (g x) _ tt c in
    let a = bind_ok (f at x) _ ys e in
    let b = bind_ok (all_of f (at + 1) xs) _ ys a.2 in
    let first : test a.0 ≡ true = h at x a.0 ok.0 ok.1 a.1 in
    let rest : list_all test b.0 ≡ true = all_pass test f g h (at + 1) xs b.0 ok.2 b.1 in
    subst (λ l. list_all test l ≡ true) (ok_same (a.0 ∷ b.0) ys b.2) (rw (first, rest) refl)

-- the same of what needs no other check
all_pass_alone : {A B : Type 0} (test : B → Bool) (f : ℕ → A → Result B QueryRefusal) → ((at : ℕ) (x : A) (y : B) → f at x ≡ Ok y → test y ≡ true) → (at : ℕ) (xs : List A) (ys : List B) → all_of f at xs ≡ Ok ys → list_all test ys ≡ true
all_pass_alone test f h at [] ys e = subst (λ l. list_all test l ≡ true) (ok_same [] ys e) refl
all_pass_alone test f h at (x ∷ xs) ys e =
    let a = bind_ok (f at x) _ ys e in
    let b = bind_ok (all_of f (at + 1) xs) _ ys a.2 in
    let first : test a.0 ≡ true = h at x a.0 a.1 in
    let rest : list_all test b.0 ≡ true = all_pass_alone test f h (at + 1) xs b.0 b.1 in
    subst (λ l. list_all test l ≡ true) (ok_same (a.0 ∷ b.0) ys b.2) (rw (first, rest) refl)

prefix_whole : {X : Type 0} (test : X → Bool) (xs : List X) → list_all test xs ≡ true → prefix_len (λ x. not (not (test x))) xs ≡ length xs
prefix_whole test [] all = refl
prefix_whole test (x ∷ xs) all =
    let parts : (test x ≡ true) × (list_all test xs ≡ true) = and_parts _ _ all in
    rw (parts.0, prefix_whole test xs parts.1) (omega arith)

-- where each element passes, no place fails
none_fails : {X : Type 0} (test : X → Bool) (xs : List X) → list_all test xs ≡ true → position (λ x. not (test x)) xs ≡ None
none_fails test xs all = rw (prefix_whole test xs all, le-ltb (length xs) (length xs) (omega arith)) refl

find_within : {X : Type 0} (P : X → Type 0) (test : X → Bool) (xs : List X) (x : X) → All P xs → find test xs ≡ Some x → P x
find_within P test [] x all e = absurd cc
find_within P test (y ∷ ys) x all e =
    elim (cases_Bool (test y)) [
      | inl holds ↦ subst P (same_Some y x (rw holds at e)) (All-head P y ys all)
      | inr fails ↦ find_within P test ys x (All-tail P y ys all) (rw fails at e)
    ]

pub found_some : {A : Type 0} (refusal : QueryRefusal) (o : Option A) (x : A) → found refusal o ≡ Ok x → o ≡ Some x
found_some refusal None x e = absurd cc
found_some refusal (Some y) x e = ap Some (ok_same y x e)

err_ok : {X : Type 0} (e : QueryRefusal) (x : X) → ◌≡◌ {A = Result X QueryRefusal} (Err e) (Ok x) → ⊥
err_ok e x h = cc

ratio_by : (at : FracPlace) (r k : Ratio) → fraction_at at r ≡ Ok k → is_fraction k.num k.den ≡ true
ratio_by at r k e =
    elim (cases_Bool (is_fraction r.num r.den)) [
      | inl holds ↦ subst (λ x. is_fraction x.num x.den ≡ true) (ok_same r k (rw holds at e)) holds
      | inr fails ↦ absurd (err_ok (BadFraction at) k (rw fails at e))
    ]

filter_fraction : (at : ℕ) (o : Option Ratio) (k : Ratio) → filter_of at o ≡ Ok k → is_fraction k.num k.den ≡ true
filter_fraction at None k e = subst (λ x. is_fraction x.num x.den ≡ true) (ok_same (record { num = 1; den = 1 }) k e) refl
filter_fraction at (Some r) k e = ratio_by (place.Relation at) r k e

rel_passes : (tables : List Table) → All IsTableWithin tables → (at : ℕ) (r : RelationItem) (rel : Rel) → rel_of tables at r ≡ Ok rel → is_rel rel ≡ true
unfolding rel_of
rel_passes tables within at r rel e =
    let table = bind_ok (table_of tables r) _ rel e in
    let kept = bind_ok (filter_of at r.filter) _ rel table.2 in
    let made : Rel = record { rows = table.0.rows; num = kept.0.num; den = kept.0.den } in
    let rows : table.0.rows ≤ INPUT_CAP = (find_within IsTableWithin (λ t. bytes_eq r.table t.name) tables table.0 within (found_some _ _ table.0 table.1)).0 in
    subst (λ x. is_rel x ≡ true) (ok_same made rel kept.2) (rw (le-leb table.0.rows INPUT_CAP rows, filter_fraction at r.filter kept.0 kept.1) refl)

-- ---- the ends of a join

pub no_relation : RelationItem
no_relation = record { alias = []; table = []; filter = None }

pub record Stands (rs : List RelationItem) (alias : List ℕ) (n : ℕ) : Type 0 where
  pub known : n < length rs
  pub same : alias ≡ (get_or rs n no_relation).alias

pub stands : (rs : List RelationItem) (refusal : QueryRefusal) (alias : List ℕ) (n : ℕ) → relation_number rs refusal alias ≡ Ok n → Stands rs alias n
stands rs refusal alias n e =
    let at = position-Some (λ r. bytes_eq alias r.alias) rs n no_relation (found_some refusal (position (λ r. bytes_eq alias r.alias) rs) n e) in
    record { known = at.0; same = (bytes_eq-Decides alias (get_or rs n no_relation).alias).0 at.1 }

two_ends : (rs : List RelationItem) (j : JoinItem) (l r : ℕ) → Stands rs j.left l → Stands rs j.right r → apart j ≡ Ok tt → l ≢ r
two_ends rs j l r sl sr ok same =
    let one : j.left ≡ j.right = sl.same ∙ ap (λ n. (get_or rs n no_relation).alias) same ∙ sym sr.same in
    err_ok (SelfJoin j.left) tt (rw ((bytes_eq-Decides j.left j.right).1 one) at ok)

-- ---- the fraction of a join

distinct_within : (name : List ℕ) (cs : List Column) (n : ℕ) → All IsColumnWithin cs → distinct_in name cs ≡ Some n → n ≤ INPUT_CAP
distinct_within name [] n all e = absurd cc
distinct_within name (c ∷ cs) n all e =
    elim (cases_Bool (bytes_eq name c.name)) [
      | inl holds ↦ omega (arith, All-head IsColumnWithin c cs all, same_Some c.distinct n (rw holds at e))
      | inr fails ↦ distinct_within name cs n (All-tail IsColumnWithin c cs all) (rw fails at e)
    ]

table_distinct_within : (tables : List Table) (table column : List ℕ) (n : ℕ) → All IsTableWithin tables → option_and_then (λ t. distinct_in column t.columns) (table_named tables table) ≡ Some n → n ≤ INPUT_CAP
table_distinct_within tables table column n all e =
    option_and_then_some (λ t. distinct_in column t.columns) (table_named tables table) n e
    (λ t is at. distinct_within column t.columns n (find_within IsTableWithin (λ x. bytes_eq table x.name) tables t all is).1 at)

count_within : (tables : List Table) (rs : List RelationItem) (alias : List ℕ) (o : Option (List ℕ)) (n : ℕ) → All IsTableWithin tables → count_of tables rs alias o ≡ Ok n → n ≤ INPUT_CAP
count_within tables rs alias None n all e = omega (arith, ok_same 1 n e)
count_within tables rs alias (Some column) n all e =
    option_and_then_some (λ r. option_and_then (λ t. distinct_in column t.columns) (table_named tables r.table)) (find (λ r. bytes_eq alias r.alias) rs) n
    (found_some (UnknownColumn alias column) (count_named tables rs alias column) n e)
    (λ r is at. table_distinct_within tables r.table column n all at)

most_within : (tables : List Table) (rs : List RelationItem) (j : JoinItem) (n : ℕ) → All IsTableWithin tables → most_distinct tables rs j ≡ Ok n → (1 ≤ n) × (n ≤ INPUT_CAP)
unfolding most_distinct
most_within tables rs j n all e =
    let l = bind_ok (count_of tables rs j.left j.left_column) _ n e in
    let r = bind_ok (count_of tables rs j.right j.right_column) _ n l.2 in
    let same : max 1 (max l.0 r.0) ≡ n = ok_same (max 1 (max l.0 r.0)) n r.2 in
    let a : l.0 ≤ INPUT_CAP = count_within tables rs j.left j.left_column l.0 all l.1 in
    let b : r.0 ≤ INPUT_CAP = count_within tables rs j.right j.right_column r.0 all r.1 in
    (omega (arith, same), omega (arith, same, a, b))

one_of : (d : ℕ) → 1 ≤ d → d ≤ INPUT_CAP → is_fraction 1 d ≡ true
one_of d a b = rw (le-leb 1 d a, le-leb d INPUT_CAP b) refl

selectivity_fraction : (d at : ℕ) (o : Option Ratio) (k : Ratio) → 1 ≤ d → d ≤ INPUT_CAP → selectivity_over d at o ≡ Ok k → is_fraction k.num k.den ≡ true
selectivity_fraction d at None k some within e = subst (λ x. is_fraction x.num x.den ≡ true) (ok_same (record { num = 1; den = d }) k e) (one_of d some within)
selectivity_fraction d at (Some r) k some within e = ratio_by (place.Join at) r k e

pred_passes : (tables : List Table) (rs : List RelationItem) → All IsTableWithin tables → (at : ℕ) (j : JoinItem) (p : Pred) (z : Unit {0}) → apart j ≡ Ok z → pred_of tables rs at j ≡ Ok p → is_pred (length rs) p ≡ true
unfolding pred_of
pred_passes tables rs all at j p z ok e =
    let ends = bind_ok (ends_of rs j) _ p e in
    let d = bind_ok (most_distinct tables rs j) _ p ends.2 in
    let w : (1 ≤ d.0) × (d.0 ≤ INPUT_CAP) = most_within tables rs j d.0 all d.1 in
    let kept = bind_ok (selectivity_over d.0 at j.selectivity) _ p d.2 in
    let made : Pred = record { low = min ends.0.left ends.0.right; high = max ends.0.left ends.0.right; num = kept.0.num; den = kept.0.den } in
    let l = bind_ok (relation_number rs (UnknownAlias j.left) j.left) _ ends.0 ends.1 in
    let r = bind_ok (relation_number rs (UnknownAlias j.right) j.right) _ ends.0 l.2 in
    let both : Ends = record { left = l.0; right = r.0 } in
    let same : both ≡ ends.0 = ok_same both ends.0 r.2 in
    let sl : Stands rs j.left l.0 = stands rs (UnknownAlias j.left) j.left l.0 l.1 in
    let sr : Stands rs j.right r.0 = stands rs (UnknownAlias j.right) j.right r.0 r.1 in
    let ne : l.0 ≢ r.0 = two_ends rs j l.0 r.0 sl sr ok in
    let lefts : l.0 ≡ ends.0.left = ap (λ x. x.left) same in
    let rights : r.0 ≡ ends.0.right = ap (λ x. x.right) same in
    let low : made.low < made.high = omega (arith, lefts, rights, ne) in
    let high : made.high < length rs = omega (arith, lefts, rights, sl.known, sr.known) in
    subst (λ x. is_pred (length rs) x ≡ true) (ok_same made p kept.2)
    (rw (lt-ltb made.low made.high low, lt-ltb made.high (length rs) high, selectivity_fraction d.0 at j.selectivity kept.0 w.0 w.1 kept.1) refl)

-- ---- the query

sized_within : (rs : List RelationItem) → sized rs ≡ Ok tt → (0 < length rs) × (length rs ≤ N_MAX)
sized_within rs e = grind (arith, nat_tests)

-- what the passes over a query's items have found
record Found (tables : List Table) (rs : List RelationItem) (js : List JoinItem) (q : JoinQuery) : Type 0 where
  pub within : All IsTableWithin tables
  pub few_joins : length js ≤ PREDS_MAX
  pub size : sized rs ≡ Ok tt
  pub two_ends : checked apart js ≡ Ok tt
  pub rels : all_of (rel_of tables) 0 rs ≡ Ok q.rels
  pub preds : all_of (pred_of tables rs) 0 js ≡ Ok q.preds

rels_pass : (tables : List Table) (rs : List RelationItem) (js : List JoinItem) (q : JoinQuery) → Found tables rs js q → list_all is_rel q.rels ≡ true
rels_pass tables rs js q f =
    all_pass_alone is_rel (rel_of tables) (λ at r rel e. rel_passes tables f.within at r rel e) 0 rs q.rels f.rels

preds_pass : (tables : List Table) (rs : List RelationItem) (js : List JoinItem) (q : JoinQuery) → Found tables rs js q → list_all (is_pred (length q.rels)) q.preds ≡ true
preds_pass tables rs js q f =
    rw (length-all_of (rel_of tables) 0 rs q.rels f.rels)
    (all_pass (is_pred (length rs)) (pred_of tables rs) apart (λ at j p z ok e. pred_passes tables rs f.within at j p z ok e) 0 js q.preds f.two_ends f.preds)

is_query : (tables : List Table) (rs : List RelationItem) (js : List JoinItem) (q : JoinQuery) → Found tables rs js q → IsQuery q
is_query tables rs js q f =
    record {
      some = omega (arith, length-all_of (rel_of tables) 0 rs q.rels f.rels, sized_within rs f.size);
      few = omega (arith, length-all_of (rel_of tables) 0 rs q.rels f.rels, sized_within rs f.size);
      few_preds = omega (arith, length-all_of (pred_of tables rs) 0 js q.preds f.preds, f.few_joins);
      rels = every_pass is_rel q.rels (none_fails is_rel q.rels (rels_pass tables rs js q f));
      preds = every_pass (is_pred (length q.rels)) q.preds (none_fails (is_pred (length q.rels)) q.preds (preds_pass tables rs js q f));
    }

no_fault : (tables : List Table) (rs : List RelationItem) (js : List JoinItem) (q : JoinQuery) → Found tables rs js q → query_fault q.rels q.preds ≡ None
unfolding query_fault
no_fault tables rs js q f =
    let size : (0 < length q.rels) × (length q.rels ≤ N_MAX) =
    rw (length-all_of (rel_of tables) 0 rs q.rels f.rels) (sized_within rs f.size) in
    let some : length q.rels ≢ 0 = omega (arith, size) in
    let few : length q.preds ≤ PREDS_MAX = omega (arith, length-all_of (pred_of tables rs) 0 js q.preds f.preds, f.few_joins) in
    rw (
      ne_eqb (length q.rels) 0 some,
      le-ltb N_MAX (length q.rels) size.1,
      le-ltb PREDS_MAX (length q.preds) few,
      none_fails is_rel q.rels (rels_pass tables rs js q f),
      none_fails (is_pred (length q.rels)) q.preds (preds_pass tables rs js q f),
    ) refl

-- ---- what the definition's query is

made_from : (tables : List Table) (item : QueryItem) (q : JoinQuery) → All IsTableWithin tables → IsQueryWithin item → query_of tables item ≡ Ok q → Found tables item.relations item.joins q
unfolding query_of
made_from tables item q within few e =
    let size = bind_ok (sized item.relations) _ q e in
    let aliases = bind_ok (aliases_of item.relations) _ q size.2 in
    let known_tables = bind_ok (each_of (table_of tables) item.relations) _ q aliases.2 in
    let known_aliases = bind_ok (each_of (ends_of item.relations) item.joins) _ q known_tables.2 in
    let known_columns = bind_ok (each_of (most_distinct tables item.relations) item.joins) _ q known_aliases.2 in
    let ends = bind_ok (checked apart item.joins) _ q known_columns.2 in
    let rels = bind_ok (all_of (rel_of tables) 0 item.relations) _ q ends.2 in
    let preds = bind_ok (all_of (pred_of tables item.relations) 0 item.joins) _ q rels.2 in
    let made : JoinQuery = record { rels = rels.0; preds = preds.0 } in
    subst (Found tables item.relations item.joins) (ok_same made q preds.2)
    (record {
      within = within;
      few_joins = few;
      size = size.1;
      two_ends = ends.1;
      rels = rels.1;
      preds = preds.1;
    })

-- the query is within the limits, and has a relation for each item
pub query_valid : (tables : List Table) (item : QueryItem) (q : JoinQuery) → All IsTableWithin tables → IsQueryWithin item → query_of tables item ≡ Ok q → IsQuery q × (relations q ≡ length item.relations)
query_valid tables item q within few e =
    let f : Found tables item.relations item.joins q = made_from tables item q within few e in
    (is_query tables item.relations item.joins q f, length-all_of (rel_of tables) 0 item.relations q.rels f.rels)

-- its two lists have no fault
pub no_query_fault : (tables : List Table) (item : QueryItem) (rels : List Rel) (preds : List Pred) (r : Result JoinQuery QueryFault) → All IsTableWithin tables → IsQueryWithin item → query_of tables item ≡ Ok (record { rels = rels; preds = preds }) → IfErr r (λ e. query_fault rels preds ≡ Some e) → IsOk r
no_query_fault tables item rels preds (Ok q) within few e h = search rules
no_query_fault tables item rels preds (Err x) within few e h =
    let q : JoinQuery = record { rels = rels; preds = preds } in
    let none : query_fault rels preds ≡ None = no_fault tables item.relations item.joins q (made_from tables item q within few e) in
    absurd cc
