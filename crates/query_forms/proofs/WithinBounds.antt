-- What a file of changes asks for is within the bounds of its workload.
use Rattle.std.proofs.Common.{◌≡◌, ℕ, zero, suc, ◌+◌, ◌<◌, ◌≤◌, List, [], ◌∷◌, Bool, true, false, cond, Option, Some, None, Ok, Err, refl, sym, subst, arith}
use Rattle.std.specs.Prelude.{codes, nat_le, option_and_then, option_map, slice_get}
use Rattle.std.specs.List.{All, AllByRecursion, range_with_len, slice_index_or}
use Rattle.std.proofs.lemmas.Bool.{leb-true}
use Rattle.std.proofs.lemmas.List.Elements.{All-filter, All-from_recursion}
use Rattle.dpe_base.specs.declared.TheConstants.{INPUT_CAP}
use Rattle.dpe_base.specs.Queries.{relations}
use Rattle.serde_json.specs.Data.{Data, Items, no_items, item}
use Rattle.serde_json.specs.Find.{as_number, as_u64, get}
use Rattle.query_json.specs.Answer.{◌>>=◌}
use Rattle.query_json.specs.Walk.{as_list, as_name, as_whole}
use Rattle.query_json.specs.Walk.Places.{items_in}
use Rattle.query_json.specs.declared.entry.Entry.{Entry}
use Rattle.query_json.specs.declared.entry.Part.{Part}
use Rattle.query_json.specs.declared.entry.Part.TheVariants.{Accepted, Refused}
use Rattle.query_json.proofs.Binds.{bind_ok, ok_same}
use Rattle.query_forms.specs.declared.changes.Asked.{Asked}
use Rattle.query_forms.specs.declared.changes.Change.{Change}
use Rattle.query_forms.specs.declared.changes.ChangeFault.TheVariants as fault
use Rattle.query_forms.specs.Changes.{AreRelationsOf, IsWithin, all_changes, as_change, change_at, changes_from, changes_in, has_table, is_on, most_changes, relations_at, uses_from, uses_in}

-- ---- what a change uses

below : (m a n : ℕ) → a + n ≤ m → AllByRecursion (λ r. r < m) (range_with_len a n)
below m a zero h = tt
below m a (suc n) h = (omega (arith, h), below m (a + 1) n (omega (arith, h)))

uses_within : (table : List ℕ) (rs : Option Data) (part : Part) → AreRelationsOf part (uses_in table rs part)
uses_within table rs (Accepted named) =
    let n = relations named.query in
    All-filter (is_on table rs) (λ r. r < n) (range_with_len 0 n) (All-from_recursion (λ r. r < n) (range_with_len 0 n) (below n 0 n (omega arith)))
uses_within table rs (Refused why) = refl

each_within : (table : List ℕ) (w : Data) (i : ℕ) (entries : List Entry) (k : ℕ) (e : Entry) → slice_get entries k ≡ Some e
    → AreRelationsOf e.part (slice_index_or (uses_from table w i entries) k [])
each_within table w i [] k e is = absurd cc
each_within table w i (x ∷ xs) zero e is =
    let same : x ≡ e = cc in
    subst (λ (y : Entry). AreRelationsOf y.part (uses_in table (relations_at w i) x.part)) same (uses_within table (relations_at w i) x.part)
each_within table w i (x ∷ xs) (suc k) e is = each_within table w (i + 1) xs k e is

-- ---- the rows that a change asks for

abbrev as_asked : List ℕ → ℕ → Asked
as_asked table rows = record { table = table; rows = rows }

tested_rows : (table : List ℕ) (n : ℕ) (b : Bool) (c : Asked) → nat_le n INPUT_CAP ≡ b → option_map (as_asked table) (cond b (Some n) None) ≡ Some c → c.rows ≤ INPUT_CAP
tested_rows table n true c l e =
    let same : as_asked table n ≡ c = cc in subst (λ (x : Asked). x.rows ≤ INPUT_CAP) same (leb-true n INPUT_CAP l)
tested_rows table n false c l e = absurd cc

small_rows : (table : List ℕ) (n : Option ℕ) (c : Asked)
    → option_map (as_asked table) (option_and_then (λ (k : ℕ). cond (nat_le k INPUT_CAP) (Some k) None) n) ≡ Some c → c.rows ≤ INPUT_CAP
small_rows table None c e = absurd cc
small_rows table (Some k) c e = tested_rows table k (nat_le k INPUT_CAP) c refl e

change_rows : (table : Option (List ℕ)) (rows : Option Data) (c : Asked)
    → option_and_then (λ t. option_map (as_asked t) (option_and_then (as_whole INPUT_CAP) rows)) table ≡ Some c → c.rows ≤ INPUT_CAP
change_rows None rows c e = absurd cc
change_rows (Some t) None c e = absurd cc
change_rows (Some t) (Some d) c e = small_rows t (option_and_then as_u64 (as_number d)) c e

abbrev HasFewRows : Asked → Type 0
HasFewRows c = c.rows ≤ INPUT_CAP

one_more : (o : Option Asked) (more : Option (List Asked)) (cs : List Asked) → ((c : Asked) → o ≡ Some c → HasFewRows c)
    → ((xs : List Asked) → more ≡ Some xs → AllByRecursion HasFewRows xs) → option_and_then (λ c. option_map (λ xs. c ∷ xs) more) o ≡ Some cs → AllByRecursion HasFewRows cs
one_more None more cs f g e = absurd cc
one_more (Some c) None cs f g e = absurd cc
one_more (Some c) (Some xs) cs f g e = let same : c ∷ xs ≡ cs = cc in subst (AllByRecursion HasFewRows) same (f c refl, g xs refl)

all_few : (ds : Items) (cs : List Asked) → all_changes ds ≡ Some cs → AllByRecursion HasFewRows cs
all_few no_items cs e = let same : [] ≡ cs = cc in subst (AllByRecursion HasFewRows) same tt
all_few (item d ds) cs e =
    one_more (as_change d) (all_changes ds) cs (λ c is. change_rows (option_and_then as_name (get (codes "table") d)) (get (codes "rows") d) c is) (all_few ds) e

asked_few : (o : Option Items) (cs : List Asked) → option_and_then all_changes o ≡ Some cs → AllByRecursion HasFewRows cs
asked_few None cs e = absurd cc
asked_few (Some ds) cs e = all_few ds cs e

-- ---- the changes

taken : (b : Bool) (x c : Change) (j : ℕ) → cond b (Ok x) (Err (fault.UnknownTable j)) ≡ Ok c → x ≡ c
taken true x c j e = ok_same x c e
taken false x c j e = absurd cc

one_within : (w : Data) (entries : List Entry) (j : ℕ) (a : Asked) (c : Change) → HasFewRows a → change_at w entries j a ≡ Ok c → IsWithin entries c
one_within w entries j a c few e =
    subst (IsWithin entries)
    (taken (has_table a.table (items_in (get (codes "tables") w))) (record { rows = a.rows; uses = uses_from a.table w 0 entries }) c j e)
    (record { rows = few; uses = λ i entry is. each_within a.table w 0 entries i entry is })

all_within : (w : Data) (entries : List Entry) (j : ℕ) (asked : List Asked) (cs : List Change) → AllByRecursion HasFewRows asked
    → changes_from w entries j asked ≡ Ok cs → AllByRecursion (IsWithin entries) cs
all_within w entries j [] cs few e = subst (AllByRecursion (IsWithin entries)) (ok_same [] cs e) tt
all_within w entries j (a ∷ more) cs few e =
    let first = bind_ok (change_at w entries j a) (λ c. changes_from w entries (j + 1) more >>= λ later. Ok (c ∷ later)) cs e in
    let rest = bind_ok (changes_from w entries (j + 1) more) (λ later. Ok (first.0 ∷ later)) cs first.2 in
    subst (AllByRecursion (IsWithin entries)) (ok_same (first.0 ∷ rest.0) cs rest.2)
    (one_within w entries j a first.0 few.0 first.1, all_within w entries (j + 1) more rest.0 few.1 rest.1)

-- the changes that stand at a member
pub changes_within : (member : Option Data) (w : Data) (entries : List Entry) (asked used : List Asked) (changes : List Change) → changes_in member ≡ Some asked → used ≡ asked
    → changes_from w entries 0 used ≡ Ok changes → All (IsWithin entries) changes
changes_within member w entries asked used changes found same e =
    let few : AllByRecursion HasFewRows used = subst (AllByRecursion HasFewRows) (sym same) (asked_few (option_and_then (as_list most_changes) member) asked found) in
    All-from_recursion (IsWithin entries) changes (all_within w entries 0 used changes few e)
