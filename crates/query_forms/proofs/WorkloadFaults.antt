-- What the workload of a file of changes may be refused for.
use Rattle.std.proofs.Common.{◌≡◌, ◌+◌, ℕ, List, [], ◌∷◌, Option, Some, None, Result, Ok, Err, Bool, true, false, refl}
use Rattle.std.specs.Prelude.{codes, if◌then◌else◌}
use Rattle.serde_json.specs.Data.{Data}
use Rattle.serde_json.specs.Find.{get}
use Rattle.query_json.specs.declared.entry.Entry.{Entry}
use Rattle.query_json.specs.declared.fault.FileFault.{FileFault}
use Rattle.query_json.specs.declared.fault.FileFault.TheVariants.{NoMemory, NotJson}
use Rattle.query_json.specs.Answer.{◌>>=◌}
use Rattle.query_json.specs.Entries.{entries_of_value}
use Rattle.query_json.specs.Walk.{json_of}
use Rattle.query_json.proofs.ValueFaults.{IsOfValue, value_faults}
use Rattle.query_forms.specs.declared.changes.Asked.{Asked}
use Rattle.query_forms.specs.declared.changes.Change.{Change}
use Rattle.query_forms.specs.declared.changes.ChangeFault.{ChangeFault}
use Rattle.query_forms.specs.declared.changes.ChangeFault.TheVariants as fault
use Rattle.query_forms.specs.Changes.{change_at, changed_of, changes_from, changes_in, or_bad, or_not_json, or_workload}
use Rattle.query_forms.specs.Laws.{WorkloadsOfChangesAreJson}

-- the fault of a workload is one of a value
Only : {X : Type 0} → Result X ChangeFault → Type 0
Only (Ok x) = Unit {0}
Only (Err fault.NotJson) = Unit {0}
Only (Err fault.BadChanges) = Unit {0}
Only (Err (fault.Workload why)) = IsOfValue why
Only (Err (fault.UnknownTable j)) = Unit {0}
Only (Err fault.NoMemory) = Unit {0}

chained : {A B : Type 0} (r : Result A ChangeFault) (rest : A → Result B ChangeFault) → Only r → ((x : A) → Only (rest x)) → Only (r >>= rest)
unfolding Only
chained (Ok x) rest h k = k x
chained (Err fault.NotJson) rest h k = tt
chained (Err fault.BadChanges) rest h k = tt
chained (Err (fault.Workload why)) rest h k = h
chained (Err (fault.UnknownTable j)) rest h k = tt
chained (Err fault.NoMemory) rest h k = tt

done : {X : Type 0} (x : X) → Only {X = X} (Ok x)
unfolding Only
done x = tt

json_only : (o : Option Data) → Only (or_not_json o)
unfolding Only
json_only None = tt
json_only (Some d) = tt

bad_only : {X : Type 0} (o : Option X) → Only (or_bad o)
unfolding Only
bad_only None = tt
bad_only (Some x) = tt

workload_only : (d : Data) (r : Result (List Entry) FileFault) → entries_of_value d ≡ r → Only (or_workload r)
unfolding Only
workload_only d (Ok x) e = tt
workload_only d (Err why) e = value_faults d why e

known_only : (b : Bool) (x : Change) (j : ℕ) → Only (if b then Ok x else Err (fault.UnknownTable j))
unfolding Only
known_only true x j = tt
known_only false x j = tt

changes_only : (w : Data) (entries : List Entry) (j : ℕ) (asked : List Asked) → Only (changes_from w entries j asked)
changes_only w entries j [] = done []
changes_only w entries j (a ∷ more) =
    chained (change_at w entries j a) _ (known_only _ _ j)
    (λ change. chained (changes_from w entries (j + 1) more) _ (changes_only w entries (j + 1) more) (λ changes. done _))

changed_only : (bytes : List ℕ) → Only (changed_of bytes)
unfolding changed_of
changed_only bytes =
    chained _ _ (json_only (json_of bytes)) (λ d.
    chained _ _ (bad_only (changes_in (get (codes "changes") d))) (λ asked.
    chained _ _ (bad_only (get (codes "workload") d)) (λ w.
    chained _ _ (workload_only w (entries_of_value w) refl) (λ entries.
    chained _ _ (changes_only w entries 0 asked) (λ changes. done (record { workload = entries; changes = changes }))))))

given : {X : Type 0} (why : FileFault) (r : Result X ChangeFault) → r ≡ Err (fault.Workload why) → Only {X = X} r → IsOfValue why
unfolding Only
given why (Ok x) e h = absurd cc
given why (Err fault.NotJson) e h = absurd cc
given why (Err fault.BadChanges) e h = absurd cc
given why (Err (fault.Workload f)) e h = let same : f ≡ why = cc in rw (← same) h
given why (Err (fault.UnknownTable j)) e h = absurd cc
given why (Err fault.NoMemory) e h = absurd cc

pub workloads_are_json : WorkloadsOfChangesAreJson
workloads_are_json bytes = (λ e. given NotJson (changed_of bytes) e (changed_only bytes), λ e. given NoMemory (changed_of bytes) e (changed_only bytes))
