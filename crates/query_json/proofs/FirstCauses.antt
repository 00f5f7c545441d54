-- A query is refused for the first of the nine causes.
use Rattle.std.proofs.Common.{◌≡◌, ◌↔◌, ◌∙◌, ℕ, zero, suc, ◌+◌, ◌<◌, List, [], ◌∷◌, length, map, Bool, true, false, not, cond, ltb, All, Option, Some, None, Result, Ok, Err, is_some, slice_get, refl, sym, ap, subst, arith, inl, inr}
use Rattle.std.specs.Prelude.{◌||◌, ◌==◌, position, nat_lt}
use Rattle.std.specs.Str.{bytes_eq}
use Rattle.std.specs.List.{list_any, prefix_len}
use Rattle.std.proofs.lemmas.Bool.{cases_lt, le-ltb, lt-ltb}
use Rattle.std.proofs.lemmas.Bool.Decides.{nat_tests}
use Rattle.std.proofs.lemmas.Option.{same_Some}
use Rattle.dpe_base.specs.declared.TheConstants.{N_MAX}
use Rattle.dpe_base.specs.Queries.{JoinQuery, is_fraction}
use Rattle.join_graph.specs.Graphs.{IsFirstUnreached, graph_of}
use Rattle.query_json.specs.declared.entry.Named.{Named}
use Rattle.query_json.specs.declared.file.JoinItem.{JoinItem}
use Rattle.query_json.specs.declared.file.QueryItem.{QueryItem}
use Rattle.query_json.specs.declared.file.Ratio.{Ratio}
use Rattle.query_json.specs.declared.file.RelationItem.{RelationItem}
use Rattle.query_json.specs.declared.file.Table.{Table}
use Rattle.query_json.specs.declared.refusal.FracPlace.{FracPlace}
use Rattle.query_json.specs.declared.refusal.FracPlace.TheVariants as place
use Rattle.query_json.specs.declared.refusal.QueryRefusal.{QueryRefusal}
use Rattle.query_json.specs.declared.refusal.QueryRefusal.TheVariants.{NoRelations, TooManyRelations, DuplicateAlias, UnknownTable, UnknownAlias, UnknownColumn, SelfJoin, BadFraction, Disconnected}
use Rattle.query_json.specs.declared.query.scope.Ends.{Ends}
use Rattle.query_json.specs.Answer.{◌>>=◌}
use Rattle.query_json.specs.Queries.Causes.{Cause, HasABadFilter, HasABadFraction, HasABadSelectivity, HasASelfJoin, HasAnAliasTwice, HasAnUnknownAlias, HasAnUnknownColumn, HasAnUnknownTable, HasNoRelations, HasTooManyRelations, IsDisconnected, IsFirstWith, Never, Refusing, has_unknown_column, has_unknown_end, is_among, is_bad, is_no_alias, is_of_no_table, is_self_join, lacks_column, or_empty, unknown_column, unknown_end, ◌otherwise◌}
use Rattle.query_json.specs.Laws.{IsFirstRefused}
use Rattle.query_json.specs.Walk.Limits.{IsQueryWithin, IsTableWithin}
use Rattle.query_json.specs.Names.{distinct_names}
use Rattle.query_json.specs.Queries.{alias_at, aliases_of, all_of, apart, checked, count_named, count_of, each_of, ends_of, filter_of, found, fraction_at, most_distinct, named, named_of, or_alias_twice, or_disconnected, pred_of, query_of, rel_of, relation_number, selectivity_over, sized, table_named, table_of}
use Rattle.query_json.specs.Queries.Unreached.{first_unreached}
use Rattle.query_json.proofs.Binds.{bind_ok, ok_same}
use Rattle.query_json.proofs.Finds.{position_map}
use Rattle.query_json.proofs.LeastPlaces.{err_same, least, least_checked}
use Rattle.query_json.proofs.QueryLaws.{query_valid}
use Rattle.query_json.proofs.Repeats.{aliases_by_place}
use Rattle.query_json.proofs.UnreachedLaws.{first_unreached_is}

-- a pass refuses exactly where the cause is there
abbrev IsExact : {A : Type 0} → Result A QueryRefusal → Cause → Type 0
IsExact r cause = (why : QueryRefusal) → (r ≡ Err why) ↔ cause why

-- ---- one pass after another

not_both : {X Y : Type 0} (x : X) (why : QueryRefusal) → ◌≡◌ {A = Result X QueryRefusal} (Ok x) (Err why) → Y
not_both x why e = absurd cc

then_by : {A B : Type 0} (r : Result A QueryRefusal) (rest : A → Result B QueryRefusal) (first second : Cause) → IsExact r first → ((x : A) → r ≡ Ok x → IsExact (rest x) second) → IsExact (r >>= rest) (first otherwise second)
then_by (Ok x) rest first second one two why = (
  λ e. inr (λ w h. not_both x w ((one w).1 h), (two x refl why).0 e),
  λ h. elim h [ inl p ↦ not_both x why ((one why).1 p) | inr q ↦ (two x refl why).1 q.1 ],
)
then_by {A} {B} (Err z) rest first second one two why = (
  λ e. inl ((one why).0 (ap Err (err_same z why e))),
  λ h. elim h [ inl p ↦ ap Err (err_same z why ((one why).1 p)) | inr q ↦ absurd (q.0 z ((one z).0 refl)) ],
)

-- nothing is refused after the pass
then_ok : {A B : Type 0} (r : Result A QueryRefusal) (f : A → B) (cause : Cause) → IsExact r cause → IsExact (r >>= λ x. Ok (f x)) cause
then_ok (Ok x) f cause one why = (λ e. not_both (f x) why e, λ h. not_both x why ((one why).1 h))
then_ok (Err z) f cause one why = (λ e. (one why).0 (ap Err (err_same z why e)), λ h. ap Err (err_same z why ((one why).1 h)))

-- the same with what comes after both
then_more : {A B C : Type 0} (r : Result A QueryRefusal) (rest : A → Result B QueryRefusal) (more : B → Result C QueryRefusal) (first second : Cause)
    → IsExact r first → ((x : A) → r ≡ Ok x → IsExact (rest x >>= more) second) → IsExact ((r >>= rest) >>= more) (first otherwise second)
then_more (Ok x) rest more first second one two = then_by (Ok x) (λ y. rest y >>= more) first second one two
then_more (Err z) rest more first second one two = then_by (Err z) (λ y. rest y >>= more) first second one two

-- three causes, from the left and from the right
from_right : (a b c : Cause) (why : QueryRefusal) → ((a otherwise b) otherwise c) why → (a otherwise b otherwise c) why
from_right a b c why (inl (inl p)) = inl p
from_right a b c why (inl (inr q)) = inr (q.0, inl q.1)
from_right a b c why (inr h) = inr (λ w p. h.0 w (inl p), inr (λ w q. h.0 w (inr (λ v p. h.0 v (inl p), q)), h.1))

from_left : (a b c : Cause) (why : QueryRefusal) → (a otherwise b otherwise c) why → ((a otherwise b) otherwise c) why
from_left a b c why (inl p) = inl (inl p)
from_left a b c why (inr (never, inl q)) = inl (inr (never, q))
from_left a b c why (inr (never, inr l)) = inr (λ w x. elim x [ inl p ↦ never w p | inr q ↦ l.0 w q.1 ], l.1)

-- ---- a pass over a list

abbrev refusal_of : {X : Type 0} → Result X QueryRefusal → Option QueryRefusal
refusal_of (Ok x) = None
refusal_of (Err why) = Some why

abbrev refused_if : Bool → QueryRefusal → Option QueryRefusal
refused_if b why = cond b (Some why) None

from_err : {X : Type 0} (r : Result X QueryRefusal) (b : Bool) (w why : QueryRefusal) → refusal_of r ≡ refused_if b w → r ≡ Err why → (b ≡ true) × (why ≡ w)
from_err (Ok x) b w why e is = not_both x why is
from_err (Err z) true w why e is = (refl, sym (err_same z why is) ∙ same_Some z w e)
from_err (Err z) false w why e is = absurd cc

to_err : {X : Type 0} (r : Result X QueryRefusal) (b : Bool) (w : QueryRefusal) → refusal_of r ≡ refused_if b w → b ≡ true → r ≡ Err w
to_err (Ok x) true w e is = absurd cc
to_err (Err z) true w e is = ap Err (same_Some z w e)
to_err r false w e is = absurd cc

from_ok : {X : Type 0} (r : Result X QueryRefusal) (b : Bool) (w : QueryRefusal) (x : X) → refusal_of r ≡ refused_if b w → r ≡ Ok x → b ≡ false
from_ok (Err z) b w x e is = absurd cc
from_ok (Ok y) true w x e is = absurd cc
from_ok (Ok y) false w x e is = refl

to_ok : {X : Type 0} (r : Result X QueryRefusal) (b : Bool) (w : QueryRefusal) → refusal_of r ≡ refused_if b w → b ≡ false → (x : X) × (r ≡ Ok x)
to_ok (Ok x) b w e is = (x, refl)
to_ok (Err z) true w e is = absurd cc
to_ok (Err z) false w e is = absurd cc

-- each member is refused exactly where it passes the test, so the first that passes it decides
by_least : {A B : Type 0} (f : ℕ → A → Result B QueryRefusal) (test : A → Bool) (w : ℕ → A → QueryRefusal) (xs : List A) → ((i : ℕ) (x : A) → slice_get xs i ≡ Some x → refusal_of (f i x) ≡ refused_if (test x) (w i x))
    → (why : QueryRefusal) → ((k : ℕ) × IsFirstRefused f xs why k) ↔ ((k : ℕ) × (x : A) × IsFirstWith test xs x k × (why ≡ w k x))
by_least f test w xs local why = (
  λ h.
      let x = h.1.refused.0 in
      let here = from_err (f h.0 x) (test x) (w h.0 x) why (local h.0 x h.1.refused.1) h.1.refused.2 in (
        h.0,
        x,
        record { here = h.1.refused.1; passes = here.0; first = λ i y lt is. let y' = h.1.first i y lt is in from_ok (f i y) (test y) (w i y) y'.0 (local i y is) y'.1 },
        here.1,
      ),
  λ h. (
    h.0,
    record {
      refused = (h.1, h.2.here, to_err (f h.0 h.1) (test h.1) (w h.0 h.1) (local h.0 h.1 h.2.here) h.2.passes ∙ ap Err (sym h.3));
      first = λ i y lt is. to_ok (f i y) (test y) (w i y) (local i y is) (h.2.first i y lt is);
    },
  ),
)

pass_exact : {A B : Type 0} (f : ℕ → A → Result B QueryRefusal) (test : A → Bool) (w : ℕ → A → QueryRefusal) (xs : List A) → ((i : ℕ) (x : A) → slice_get xs i ≡ Some x → refusal_of (f i x) ≡ refused_if (test x) (w i x))
    → IsExact (all_of f 0 xs) (λ why. (k : ℕ) × (x : A) × IsFirstWith test xs x k × (why ≡ w k x))
pass_exact f test w xs local why =
    let places = least f xs why in
    let tests = by_least f test w xs local why in
    (λ e. tests.0 (places.0 e), λ h. places.1 (tests.1 h))

none_at : {A : Type 0} (k : ℕ) (x : A) → slice_get {X = A} [] k ≡ Some x → ⊥
none_at zero x e = cc
none_at (suc k) x e = cc

-- what a pass that refuses nothing found of a member
found_of : {A B : Type 0} (g : A → Result B QueryRefusal) (at : ℕ) (xs : List A) (ys : List B) (i : ℕ) (x : A) → all_of (λ k. g) at xs ≡ Ok ys → slice_get xs i ≡ Some x → (y : B) × (g x ≡ Ok y)
found_of g at [] ys i x e is = absurd (none_at i x is)
found_of g at (z ∷ xs) ys zero x e is =
    let a = bind_ok (g z) _ ys e in
    (a.0, subst (λ u. g u ≡ Ok a.0) (same_Some z x is) a.1)
found_of g at (z ∷ xs) ys (suc i) x e is =
    let a = bind_ok (g z) _ ys e in
    let b = bind_ok (all_of (λ k. g) (at + 1) xs) _ ys a.2 in
    found_of g (at + 1) xs b.0 i x b.1 is

-- ---- each pass

refusal_found : {X : Type 0} (w : QueryRefusal) (o : Option X) → refusal_of (found w o) ≡ refused_if (not (is_some o)) w
refusal_found w None = refl
refusal_found w (Some x) = refl

refusal_then : {A B : Type 0} (r : Result A QueryRefusal) (f : A → B) → refusal_of (r >>= λ x. Ok (f x)) ≡ refusal_of r
refusal_then (Ok x) f = refl
refusal_then (Err z) f = refl

-- of two ends the first that is refused decides
refusal_two : {A B C : Type 0} (r : Result A QueryRefusal) (s : Result B QueryRefusal) (f : A → B → C) (b c : Bool) (v w : QueryRefusal)
    → refusal_of r ≡ refused_if b v → refusal_of s ≡ refused_if c w → refusal_of (r >>= λ x. s >>= λ y. Ok (f x y)) ≡ refused_if (b || c) (cond b v w)
refusal_two (Ok x) s f true c v w e h = absurd cc
refusal_two (Ok x) s f false c v w e h = refusal_then s (f x) ∙ h
refusal_two (Err z) s f true c v w e h = e
refusal_two (Err z) s f false c v w e h = absurd cc

is_zero : (n : ℕ) → (n == 0) ≡ true → n ≡ 0
is_zero n e = grind (arith, nat_tests)

not_zero : (n : ℕ) → (n == 0) ≡ false → n ≡ 0 → ⊥
not_zero n e z = grind (arith, nat_tests)

is_more : (n m : ℕ) → nat_lt n m ≡ true → n < m
is_more n m e = grind (arith, nat_tests)

not_more : (n m : ℕ) → nat_lt n m ≡ false → n < m → ⊥
not_more n m e l = grind (arith, nat_tests)

abbrev IsEmpty : ℕ → Cause
IsEmpty n why = (n ≡ 0) × (why ≡ NoRelations)

abbrev IsLarge : ℕ → Cause
IsLarge n why = (N_MAX < n) × (why ≡ TooManyRelations n)

sized_by : (n : ℕ) (none many : Bool) → (n == 0) ≡ none → nat_lt N_MAX n ≡ many → IsExact {A = Unit {0}} (cond none (Err NoRelations) (cond many (Err (TooManyRelations n)) (Ok tt))) (IsEmpty n otherwise IsLarge n)
sized_by n true many e h why = (
  λ x. inl (is_zero n e, sym (err_same NoRelations why x)),
  λ x. elim x [ inl p ↦ ap Err (sym p.1) | inr q ↦ absurd (q.0 NoRelations (is_zero n e, refl)) ],
)
sized_by n false true e h why = (
  λ x. inr (λ w p. not_zero n e p.0, (is_more N_MAX n h, sym (err_same (TooManyRelations n) why x))),
  λ x. elim x [ inl p ↦ absurd (not_zero n e p.0) | inr q ↦ ap Err (sym q.1.1) ],
)
sized_by n false false e h why = (
  λ x. not_both tt why x,
  λ x. elim x [ inl p ↦ absurd (not_zero n e p.0) | inr q ↦ absurd (not_more N_MAX n h q.1.0) ],
)

size_exact : (q : QueryItem) → IsExact (sized q.relations) (HasNoRelations q otherwise HasTooManyRelations q)
size_exact q = sized_by (length q.relations) (length q.relations == 0) (nat_lt N_MAX (length q.relations)) refl refl

alias_named : (r : Result (List (List ℕ)) (List ℕ)) (why : QueryRefusal) → or_alias_twice r ≡ Err why → (alias : List ℕ) × (why ≡ DuplicateAlias alias)
alias_named (Ok names) why e = not_both names why e
alias_named (Err name) why e = (name, sym (err_same (DuplicateAlias name) why e))

aliases_exact : (q : QueryItem) → IsExact (aliases_of q.relations) (HasAnAliasTwice q)
aliases_exact q why = (
  λ e.
      let a = alias_named (distinct_names (λ (r : RelationItem). r.alias) q.relations) why e in
      let k = (aliases_by_place q.relations a.0).0 (e ∙ ap Err a.1) in
      (k.0, a.0, k.1, a.1),
  λ h. (aliases_by_place q.relations h.1).1 (h.0, h.2) ∙ ap Err (sym h.3),
)

tables_exact : (tables : List Table) (q : QueryItem) → IsExact (each_of (table_of tables) q.relations) (HasAnUnknownTable tables q)
tables_exact tables q =
    pass_exact (λ at. table_of tables) (is_of_no_table tables) (λ at r. UnknownTable r.table) q.relations
    (λ i r is. refusal_found (UnknownTable r.table) (table_named tables r.table))

-- ---- joins

one_more : (n m : ℕ) → ltb (1 + n) (suc m) ≡ ltb n m
one_more n m =
    elim (cases_lt n m) [
      | inl less ↦ lt-ltb (1 + n) (suc m) (omega (arith, less)) ∙ sym (lt-ltb n m less)
      | inr not_less ↦ le-ltb (1 + n) (suc m) (omega (arith, not_less)) ∙ sym (le-ltb n m not_less)
    ]

first_or_none : {X : Type 0} (p : X → Bool) (xs : List X) → ltb (prefix_len (λ x. not (p x)) xs) (length xs) ≡ list_any p xs
first_or_none p [] = refl
first_or_none p (x ∷ xs) = by_test (p x) (first_or_none p xs)
  where
    by_test : (b : Bool) → ltb (prefix_len (λ y. not (p y)) xs) (length xs) ≡ list_any p xs → ltb (cond (not b) (1 + prefix_len (λ y. not (p y)) xs) 0) (suc (length xs)) ≡ (b || list_any p xs)
    by_test true e = lt-ltb 0 (suc (length xs)) (omega arith)
    by_test false e = one_more (prefix_len (λ y. not (p y)) xs) (length xs) ∙ e

some_if : (b : Bool) (n : ℕ) → is_some (cond b (Some n) None) ≡ b
some_if true n = refl
some_if false n = refl

alias_known : (rs : List RelationItem) (alias : List ℕ) → is_some (position (λ (r : RelationItem). bytes_eq alias r.alias) rs) ≡ is_among alias (map (λ r. r.alias) rs)
alias_known rs alias =
    ap is_some (position_map (bytes_eq alias) (λ (r : RelationItem). r.alias) rs)
    ∙ some_if _ _ ∙ first_or_none (bytes_eq alias) (map (λ r. r.alias) rs)

end_refused : (rs : List RelationItem) (alias : List ℕ) → refusal_of (relation_number rs (UnknownAlias alias) alias) ≡ refused_if (is_no_alias rs alias) (UnknownAlias alias)
end_refused rs alias =
    refusal_found (UnknownAlias alias) (position (λ (r : RelationItem). bytes_eq alias r.alias) rs) ∙ ap (λ b. refused_if (not b) (UnknownAlias alias)) (alias_known rs alias)

named_end : (b : Bool) (left right : List ℕ) → cond b (UnknownAlias left) (UnknownAlias right) ≡ UnknownAlias (cond b left right)
named_end true left right = refl
named_end false left right = refl

ends_exact : (q : QueryItem) → IsExact (each_of (ends_of q.relations) q.joins) (HasAnUnknownAlias q)
ends_exact q =
    pass_exact (λ at. ends_of q.relations) (has_unknown_end q.relations) (λ at j. UnknownAlias (unknown_end q.relations j)) q.joins
    (λ i j is.
    refusal_two (relation_number q.relations (UnknownAlias j.left) j.left) (relation_number q.relations (UnknownAlias j.right) j.right) _
    (is_no_alias q.relations j.left) (is_no_alias q.relations j.right) (UnknownAlias j.left) (UnknownAlias j.right) (end_refused q.relations j.left) (end_refused q.relations j.right)
    ∙ ap (refused_if (has_unknown_end q.relations j)) (named_end (is_no_alias q.relations j.left) j.left j.right))

count_refused : (tables : List Table) (rs : List RelationItem) (alias : List ℕ) (column : Option (List ℕ)) → refusal_of (count_of tables rs alias column) ≡ refused_if (lacks_column tables rs alias column) (UnknownColumn alias (or_empty column))
count_refused tables rs alias None = refl
count_refused tables rs alias (Some column) = refusal_found (UnknownColumn alias column) (count_named tables rs alias column)

columns_exact : (tables : List Table) (q : QueryItem) → IsExact (each_of (most_distinct tables q.relations) q.joins) (HasAnUnknownColumn tables q)
unfolding most_distinct
columns_exact tables q =
    pass_exact (λ at. most_distinct tables q.relations) (has_unknown_column tables q.relations) (λ at. unknown_column tables q.relations) q.joins
    (λ i j is.
    refusal_two (count_of tables q.relations j.left j.left_column) (count_of tables q.relations j.right j.right_column) _
    (lacks_column tables q.relations j.left j.left_column) (lacks_column tables q.relations j.right j.right_column)
    (UnknownColumn j.left (or_empty j.left_column)) (UnknownColumn j.right (or_empty j.right_column))
    (count_refused tables q.relations j.left j.left_column) (count_refused tables q.relations j.right j.right_column))

refused_where : (b : Bool) (w : QueryRefusal) → refusal_of {X = Unit {0}} (cond b (Err w) (Ok tt)) ≡ refused_if b w
refused_where true w = refl
refused_where false w = refl

self_joins_exact : (q : QueryItem) → IsExact (checked apart q.joins) (HasASelfJoin q)
self_joins_exact q why =
    let places = least_checked apart q.joins why in
    let tests = by_least (λ at. apart) is_self_join (λ at j. SelfJoin j.left) q.joins (λ i j is. refused_where (is_self_join j) (SelfJoin j.left)) why in
    (λ e. tests.0 (places.0 e), λ h. places.1 (tests.1 h))

-- ---- fractions

fraction_refused : (at : FracPlace) (r : Ratio) → refusal_of (fraction_at at r) ≡ refused_if (not (is_fraction r.num r.den)) (BadFraction at)
fraction_refused at r = by_test (is_fraction r.num r.den)
  where
    by_test : (b : Bool) → refusal_of (cond b (Ok r) (Err (BadFraction at))) ≡ refused_if (not b) (BadFraction at)
    by_test true = refl
    by_test false = refl

filter_refused : (at : ℕ) (o : Option Ratio) → refusal_of (filter_of at o) ≡ refused_if (is_bad o) (BadFraction (place.Relation at))
filter_refused at None = refl
filter_refused at (Some r) = fraction_refused (place.Relation at) r

selectivity_refused : (distinct at : ℕ) (o : Option Ratio) → refusal_of (selectivity_over distinct at o) ≡ refused_if (is_bad o) (BadFraction (place.Join at))
selectivity_refused distinct at None = refl
selectivity_refused distinct at (Some r) = fraction_refused (place.Join at) r

rel_refused : (tables : List Table) (at : ℕ) (r : RelationItem) (t : Table) → table_of tables r ≡ Ok t → refusal_of (rel_of tables at r) ≡ refused_if (is_bad r.filter) (BadFraction (place.Relation at))
unfolding rel_of
rel_refused tables at r t e = rw e (refusal_then (filter_of at r.filter) _ ∙ filter_refused at r.filter)

pred_refused : (tables : List Table) (rs : List RelationItem) (at : ℕ) (j : JoinItem) (ends : Ends) (distinct : ℕ) → ends_of rs j ≡ Ok ends → most_distinct tables rs j ≡ Ok distinct
    → refusal_of (pred_of tables rs at j) ≡ refused_if (is_bad j.selectivity) (BadFraction (place.Join at))
unfolding pred_of
pred_refused tables rs at j ends distinct e d = rw (e, d) (refusal_then (selectivity_over distinct at j.selectivity) _ ∙ selectivity_refused distinct at j.selectivity)

filters_exact : (tables : List Table) (q : QueryItem) (known : List Table) → each_of (table_of tables) q.relations ≡ Ok known → IsExact (all_of (rel_of tables) 0 q.relations) (HasABadFilter q)
filters_exact tables q known e =
    pass_exact (rel_of tables) (λ (x : RelationItem). is_bad x.filter) (λ at r. BadFraction (place.Relation at)) q.relations
    (λ i r is. let t = found_of (table_of tables) 0 q.relations known i r e is in rel_refused tables i r t.0 t.1)

selectivities_exact : (tables : List Table) (q : QueryItem) (ends : List Ends) (counts : List ℕ) → each_of (ends_of q.relations) q.joins ≡ Ok ends → each_of (most_distinct tables q.relations) q.joins ≡ Ok counts
    → IsExact (all_of (pred_of tables q.relations) 0 q.joins) (HasABadSelectivity q)
selectivities_exact tables q ends counts e d =
    pass_exact (pred_of tables q.relations) (λ (x : JoinItem). is_bad x.selectivity) (λ at j. BadFraction (place.Join at)) q.joins
    (λ i j is.
    let x = found_of (ends_of q.relations) 0 q.joins ends i j e is in
    let y = found_of (most_distinct tables q.relations) 0 q.joins counts i j d is in
    pred_refused tables q.relations i j x.0 y.0 x.1 y.1)

-- ---- the query

unreached_refused : (rs : List RelationItem) (o : Option ℕ) (why : QueryRefusal) → or_disconnected rs o ≡ Err why → (r : ℕ) × (o ≡ Some r) × (why ≡ Disconnected (alias_at rs r))
unreached_refused rs None why e = not_both tt why e
unreached_refused rs (Some r) why e = (r, refl, sym (err_same (Disconnected (alias_at rs r)) why e))

disconnected_exact : (tables : List Table) (q : QueryItem) (query : JoinQuery) → All IsTableWithin tables → IsQueryWithin q → query_of tables q ≡ Ok query → IsExact (or_disconnected q.relations (first_unreached query)) (IsDisconnected tables q)
disconnected_exact tables q query within few e why =
    let valid = (query_valid tables q query within few e).0 in (
      λ h.
          let r = unreached_refused q.relations (first_unreached query) why h in
          (query, r.0, e, ((first_unreached_is query valid).1 r.0).0 r.1, r.2),
      λ h.
          let same : query ≡ h.0 = ok_same query h.0 (sym e ∙ h.2) in
          let first : IsFirstUnreached (graph_of query) h.1 = subst (λ (x : JoinQuery). IsFirstUnreached (graph_of x) h.1) (sym same) h.3 in
          ap (or_disconnected q.relations) (((first_unreached_is query valid).1 h.1).1 first) ∙ ap Err (sym h.4),
    )

fractions_exact : (tables : List Table) (q : QueryItem) (r : Result Named QueryRefusal) → IsExact r (HasABadFilter q otherwise HasABadSelectivity q otherwise IsDisconnected tables q) → IsExact r (HasABadFraction q otherwise IsDisconnected tables q)
fractions_exact tables q r one why = (
  λ e. from_left (HasABadFilter q) (HasABadSelectivity q) (IsDisconnected tables q) why ((one why).0 e),
  λ h. (one why).1 (from_right (HasABadFilter q) (HasABadSelectivity q) (IsDisconnected tables q) why h),
)

sizes_exact : (q : QueryItem) (r : Result Named QueryRefusal) (later : Cause) → IsExact r ((HasNoRelations q otherwise HasTooManyRelations q) otherwise later) → IsExact r (HasNoRelations q otherwise HasTooManyRelations q otherwise later)
sizes_exact q r later one why = (
  λ e. from_right (HasNoRelations q) (HasTooManyRelations q) later why ((one why).0 e),
  λ h. (one why).1 (from_left (HasNoRelations q) (HasTooManyRelations q) later why h),
)

refusing_exact : (tables : List Table) (q : QueryItem) → All IsTableWithin tables → IsQueryWithin q → IsExact (named_of tables q) (Refusing tables q)
unfolding named_of query_of
refusing_exact tables q within few =
    sizes_exact q _ _ (
    then_more (sized q.relations) _ _ _ _ (size_exact q) (λ size a.
    then_more (aliases_of q.relations) _ _ _ _ (aliases_exact q) (λ aliases b.
    then_more (each_of (table_of tables) q.relations) _ _ _ _ (tables_exact tables q) (λ known c.
    then_more (each_of (ends_of q.relations) q.joins) _ _ _ _ (ends_exact q) (λ ends d.
    then_more (each_of (most_distinct tables q.relations) q.joins) _ _ _ _ (columns_exact tables q) (λ counts e.
    then_more (checked apart q.joins) _ _ _ _ (self_joins_exact q) (λ two f.
    fractions_exact tables q _ (
    then_more (all_of (rel_of tables) 0 q.relations) _ _ _ _ (filters_exact tables q known c) (λ rels g.
    then_more (all_of (pred_of tables q.relations) 0 q.joins) _ _ _ _ (selectivities_exact tables q ends counts d e) (λ preds h.
    let query : JoinQuery = record { rels = rels; preds = preds } in
    let is : query_of tables q ≡ Ok query = rw (a, b, c, d, e, f, g, h) refl in
    then_ok (or_disconnected q.relations (first_unreached query)) (λ connected. named q query) _ (disconnected_exact tables q query within few is)))))))))))

none_refuses : {A : Type 0} (r : Result A QueryRefusal) (cause : Cause) → IsExact r cause → ((x : A) × (r ≡ Ok x)) ↔ Never cause
none_refuses (Ok x) cause one = (λ h why c. not_both x why ((one why).1 c), λ never. (x, refl))
none_refuses (Err z) cause one = (λ h why c. absurd cc, λ never. absurd (never z ((one z).0 refl)))

pub first_cause : (tables : List Table) (q : QueryItem) → All IsTableWithin tables → IsQueryWithin q → ((why : QueryRefusal) → (named_of tables q ≡ Err why) ↔ Refusing tables q why)
    × (((n : Named) × (named_of tables q ≡ Ok n)) ↔ Never (Refusing tables q))
first_cause tables q within few = (refusing_exact tables q within few, none_refuses (named_of tables q) (Refusing tables q) (refusing_exact tables q within few))
