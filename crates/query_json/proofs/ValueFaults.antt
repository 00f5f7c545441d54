-- A value is never refused as a text that isn't JSON, nor for want of memory.
use Rattle.std.proofs.Common.{◌≡◌, ◌⊎◌, ℕ, zero, suc, ◌<◌, List, [], ◌∷◌, Bool, true, false, cond, Some, None, Result, Ok, Err, slice_get, inl, inr, refl, ap, arith}
use Rattle.std.specs.Prelude.{length, map, nat_lt}
use Rattle.std.proofs.lemmas.Option.{same_Some}
use Rattle.serde_json.specs.Data.{Data}
use Rattle.query_json.specs.declared.TheConstants.{QUERIES_MAX, TABLES_MAX}
use Rattle.query_json.specs.declared.fault.FileFault.{FileFault}
use Rattle.query_json.specs.declared.fault.FileFault.TheVariants.{DuplicateTable, NoMemory, NotJson, Shape, TooManyQueries, TooManyTables}
use Rattle.query_json.specs.declared.entry.Entry.{Entry}
use Rattle.query_json.specs.declared.file.File.{File}
use Rattle.query_json.specs.declared.place.Place.{Place}
use Rattle.query_json.specs.declared.file.Version.{Version}
use Rattle.query_json.specs.Answer.{◌>>=◌}
use Rattle.query_json.specs.Entries.{counted, entries_of_value, entry_of, or_table_twice, table_names, tables_of}
use Rattle.query_json.specs.Names.{distinct_names}
use Rattle.query_json.specs.Walk.Places.{AllKeepFormat, IsFirstBroken, Visit, keeps_format, version_of, visits}
use Rattle.query_json.specs.Walk.{file_at}
use Rattle.query_json.proofs.FirstFaults.{first_fault}

-- a fault that a value may have
abbrev pub IsOfValue : FileFault → Type 0
IsOfValue NotJson = ⊥
IsOfValue (Shape p) = Unit {0}
IsOfValue TooManyTables = Unit {0}
IsOfValue TooManyQueries = Unit {0}
IsOfValue (DuplicateTable name) = Unit {0}
IsOfValue NoMemory = ⊥

abbrev Only : {X : Type 0} → Result X FileFault → Type 0
Only (Ok x) = Unit {0}
Only (Err why) = IsOfValue why

chained : {A B : Type 0} (r : Result A FileFault) (rest : A → Result B FileFault) → Only r → ((x : A) → Only (rest x)) → Only (r >>= rest)
chained (Ok x) rest h k = k x
chained (Err why) rest h k = h

counted_only : (tables queries : Bool) → Only {X = Unit {0}} (cond tables (Err TooManyTables) (cond queries (Err TooManyQueries) (Ok tt)))
counted_only true queries = tt
counted_only false true = tt
counted_only false false = tt

names_only : (r : Result (List (List ℕ)) (List ℕ)) → Only (or_table_twice r)
names_only (Ok names) = tt
names_only (Err name) = tt

-- ---- the walk

abbrev Broken : Version → List Visit → Type 0
Broken version walk = (p : Place) × (k : ℕ) × IsFirstBroken version walk p k

first_broken : (version : Version) (v : Visit) (walk : List Visit) → keeps_format version v ≡ true → Broken version walk → Broken version (v ∷ walk)
first_broken version v walk is (p, k, h) = (p, suc k, record { here = h.here; first = before })
  where
    before : (i : ℕ) (w : Visit) → i < suc k → slice_get (v ∷ walk) i ≡ Some w → keeps_format version w ≡ true
    before zero w lt e = rw (← same_Some v w e) is
    before (suc i) w lt e = h.first i w (omega (arith, lt)) e

all_or_first : (version : Version) (walk : List Visit) → AllKeepFormat version walk ⊎ Broken version walk
all_or_first version [] = inl (λ i v e. absurd cc)
all_or_first version (v ∷ walk) = by_test (keeps_format version v) refl (all_or_first version walk)
  where
    by_test : (b : Bool) → keeps_format version v ≡ b → AllKeepFormat version walk ⊎ Broken version walk → AllKeepFormat version (v ∷ walk) ⊎ Broken version (v ∷ walk)
    by_test false is later = inr (v.place, zero, record { here = (v, refl, refl, is); first = λ i w lt e. absurd (omega (arith, lt)) })
    by_test true is (inl all) = inl all_here
      where
        all_here : AllKeepFormat version (v ∷ walk)
        all_here zero w e = rw (← same_Some v w e) is
        all_here (suc i) w e = all i w e
    by_test true is (inr broken) = inr (first_broken version v walk is broken)

after_file : (f : File) → Only (counted f >>= λ size. tables_of f.tables >>= λ tables. Ok (map (entry_of tables) f.queries))
after_file f =
    chained (counted f) _ (counted_only (nat_lt TABLES_MAX (length f.tables)) (nat_lt QUERIES_MAX (length f.queries)))
    (λ size. chained (tables_of f.tables) _ (chained (table_names f.tables) _ (names_only (distinct_names (λ t. t.name) f.tables)) (λ names. tt)) (λ tables. tt))

abbrev entries_by : Result File FileFault → Result (List Entry) FileFault
entries_by r = r >>= λ f. counted f >>= λ size. tables_of f.tables >>= λ tables. Ok (map (entry_of tables) f.queries)

only_of_value : (d : Data) → Only (entries_of_value d)
unfolding entries_of_value
only_of_value d = by (all_or_first (version_of d) (visits d))
  where
    by : AllKeepFormat (version_of d) (visits d) ⊎ Broken (version_of d) (visits d) → Only (entries_by (file_at d))
    by (inl all) = let whole = (first_fault d).1.1 all in rw whole.1 (after_file whole.0)
    by (inr broken) = let is = ((first_fault d).0 broken.0).1 (broken.1, broken.2) in rw is tt

pub value_faults : (d : Data) (why : FileFault) → entries_of_value d ≡ Err why → IsOfValue why
value_faults d why e = given (entries_of_value d) e (only_of_value d)
  where
    given : (r : Result (List Entry) FileFault) → r ≡ Err why → Only r → IsOfValue why
    given (Ok x) e h = absurd cc
    given (Err f) e h = let same : f ≡ why = cc in rw (← same) h
