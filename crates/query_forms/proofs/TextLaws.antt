-- The laws of rewritten files over texts.
use Rattle.std.proofs.Common.{◌≡◌, ◌∙◌, ◌↔◌, ◌≤◌, ℕ, List, Bool, true, false, cond, Option, Some, None, Result, Ok, Err, refl, sym, ap, subst, arith}
use Rattle.std.specs.Str.{is_utf8}
use Rattle.std.proofs.lemmas.Str.{IsUtf8-from_is_utf8}
use Rattle.serde_json.specs.Data.{Data, depth}
use Rattle.serde_json.specs.Read.{read}
use Rattle.serde_json.specs.Written.{compact_text}
use Rattle.query_json.specs.declared.entry.Entry.{Entry}
use Rattle.std.specs.Result.{IsErrAnd}
use Rattle.query_json.specs.declared.fault.FileFault.{FileFault}
use Rattle.query_json.specs.declared.fault.FileFault.TheVariants.{DuplicateTable, NoMemory, NotJson, Shape, TooManyQueries, TooManyTables}
use Rattle.query_json.specs.Answer.{◌>>=◌, Fails, GivesBy}
use Rattle.query_json.specs.Entries.{entries_of, entries_of_value}
use Rattle.query_json.specs.Walk.{json_at, or_not_json}
use Rattle.query_json.proofs.Binds.{bind_ok, ok_same}
use Rattle.query_json.proofs.ReadBack.{IsReadBack, json_of-compact_text}
use Rattle.query_forms.specs.Forms.{rewritten_file}
use Rattle.query_forms.specs.Laws.{RewritingHasTheFaultsOfReading, RewritingTextsAgainChangesNothing, RewrittenTextsHoldTheSame}
use Rattle.query_forms.specs.Rewriting.{rewritten, rewritten_text}
use Rattle.query_forms.proofs.Depths.{file_shallow}
use Rattle.query_forms.proofs.ReadAgain.{file_read}
use Rattle.query_forms.proofs.RewrittenFiles.{had_entries, text_stays, texts_hold_the_same}
use Rattle.query_json.proofs.StringsRead.{IsOfText, strings_read}

-- the value of a text has what values of texts have
of_text : (bytes : List ℕ) (d : Data) → json_at bytes ≡ Ok d → IsOfText d
unfolding json_at
of_text bytes d e = by_utf8 (is_utf8 bytes) refl e
  where
    by_read : (o : Option Data) → is_utf8 bytes ≡ true → read bytes ≡ o → or_not_json o ≡ Ok d → IsOfText d
    by_read None utf8 is e = absurd cc
    by_read (Some v) utf8 is e = let same : v ≡ d = cc in strings_read bytes d (IsUtf8-from_is_utf8 bytes utf8) (is ∙ ap Some same)

    by_utf8 : (b : Bool) → is_utf8 bytes ≡ b → or_not_json (cond b (read bytes) None) ≡ Ok d → IsOfText d
    by_utf8 false utf8 e = absurd cc
    by_utf8 true utf8 e = by_read (read bytes) utf8 refl e

-- the text of what was rewritten reads as it
reads_again : (bytes : List ℕ) (d new : Data) → json_at bytes ≡ Ok d → rewritten d ≡ Ok new → json_at (compact_text new) ≡ Ok new
unfolding json_at
reads_again bytes d new before e =
    let same = (had_entries d new e).2 in
    let few : depth new ≤ 6 = subst (λ (v : Data). depth v ≤ 6) same (file_shallow d) in
    let whole : IsReadBack new = subst IsReadBack same (file_read d (of_text bytes d before)) in
    ap or_not_json (json_of-compact_text new whole (omega (arith, few)))

-- a text that was rewritten had a value, which was rewritten
parts : (bytes text : List ℕ) → rewritten_text bytes ≡ Ok text → (d : Data) × (new : Data) × (json_at bytes ≡ Ok d) × (rewritten d ≡ Ok new) × (compact_text new ≡ text)
unfolding rewritten_text
parts bytes text e =
    let value = bind_ok (json_at bytes) (λ d. rewritten d >>= λ new. Ok (compact_text new)) text e in
    let file = bind_ok (rewritten value.0) (λ new. Ok (compact_text new)) text value.2 in
    (value.0, file.0, value.1, file.1, ok_same (compact_text file.0) text file.2)

pub texts_stay : RewritingTextsAgainChangesNothing
texts_stay bytes text e =
    let p = parts bytes text e in
    let back : json_at text ≡ Ok p.1 = subst (λ (t : List ℕ). json_at t ≡ Ok p.1) p.4 (reads_again bytes p.0 p.1 p.2 p.3) in
    text_stays text p.0 p.1 back p.3 (sym p.4)

pub rewrites : (bytes : List ℕ) (entries : List Entry) (d : Data) → json_at bytes ≡ Ok d → entries_of_value d ≡ Ok entries
    → (rewritten d ≡ Ok (rewritten_file d)) × (rewritten_text bytes ≡ Ok (compact_text (rewritten_file d)))
unfolding rewritten rewritten_text
rewrites bytes entries d e is =
    let file : rewritten d ≡ Ok (rewritten_file d) = ap (λ r. r >>= λ es. Ok (rewritten_file d)) is in
    (file, ap (λ r. r >>= λ v. rewritten v >>= λ new. Ok (compact_text new)) e ∙ ap (λ r. r >>= λ new. Ok (compact_text new)) file)

pub texts_keep : RewrittenTextsHoldTheSame
unfolding entries_of
texts_keep bytes entries e =
    let value = bind_ok (json_at bytes) entries_of_value entries e in
    let d = value.0 in
    let new = rewrites bytes entries d value.1 value.2 in
    let text : List ℕ = compact_text (rewritten_file d) in
    let held = texts_hold_the_same bytes text d (rewritten_file d) value.1 (reads_again bytes d (rewritten_file d) value.1 new.0) new.0 in
    let same : held.0 ≡ entries = ok_same held.0 entries (sym held.1 ∙ e) in
    (text, new.1, held.2 ∙ ap Ok same)

pub holds_the_same : (bytes text : List ℕ) (entries : List Entry) (d : Data) → json_at bytes ≡ Ok d → entries_of_value d ≡ Ok entries → rewritten_text bytes ≡ Ok text
    → (entries : List Entry) × (entries_of bytes ≡ Ok entries) × (entries_of text ≡ Ok entries)
unfolding entries_of
holds_the_same bytes text entries d e is gives =
    let read : entries_of bytes ≡ Ok entries = ap (λ r. r >>= entries_of_value) e ∙ is in
    let kept = texts_keep bytes entries read in
    let same : kept.0 ≡ text = one_text (rewritten_text bytes) kept.0 text kept.1 gives in
    (entries, read, subst (λ (t : List ℕ). entries_of t ≡ Ok entries) same kept.2)
  where
    one_text : (r : Result (List ℕ) FileFault) (a b : List ℕ) → r ≡ Ok a → r ≡ Ok b → a ≡ b
    one_text (Ok x) a b e f =
        let p : x ≡ a = cc in
        let q : x ≡ b = cc in
        sym p ∙ q
    one_text (Err x) a b e f = absurd cc

-- a fault of the entries is one of the text
pub fault_of_text : (bytes : List ℕ) (d : Data) (why : FileFault) → json_at bytes ≡ Ok d → Fails why (entries_of_value d) → Fails why (rewritten_text bytes)
unfolding rewritten rewritten_text
fault_of_text bytes d why e = at why
  where
    by : (f : FileFault) → entries_of_value d ≡ Err f → rewritten_text bytes ≡ Err f
    by f is =
        ap (λ r. r >>= λ v. rewritten v >>= λ new. Ok (compact_text new)) e
        ∙ ap (λ r. (r >>= λ es. Ok (rewritten_file d)) >>= λ new. Ok (compact_text new)) is

    at : (f : FileFault) → Fails f (entries_of_value d) → Fails f (rewritten_text bytes)
    at NoMemory is = tt
    at NotJson is = by NotJson is
    at (Shape p) is = by (Shape p) is
    at TooManyTables is = by TooManyTables is
    at TooManyQueries is = by TooManyQueries is
    at (DuplicateTable n) is = by (DuplicateTable n) is

-- and it is what `?` hands on
pub handed_on : {X : Type 0} (seen : X → List ℕ) (r : Result X FileFault) (why : FileFault) (said : Result (List ℕ) FileFault) → IsErrAnd r (λ e. e ≡ why) → Fails why said → GivesBy seen r said
handed_on seen (Ok x) why said h fails = absurd h
handed_on seen (Err e) why said h fails = subst (λ (k : FileFault). Fails k said) (sym h) fails

pub same_faults : RewritingHasTheFaultsOfReading
unfolding entries_of rewritten rewritten_text
same_faults bytes why = by_value (json_at bytes)
  where
    by_entries : (d : Data) (r : Result (List Entry) FileFault) → ((r >>= λ es. Ok (rewritten_file d)) >>= λ new. Ok (compact_text new)) ≡ Err why → r ≡ Err why
    by_entries d (Ok es) e = absurd cc
    by_entries d (Err f) e = let same : f ≡ why = cc in ap Err same

    back : (d : Data) (r : Result (List Entry) FileFault) → r ≡ Err why → ((r >>= λ es. Ok (rewritten_file d)) >>= λ new. Ok (compact_text new)) ≡ Err why
    back d (Ok es) e = absurd cc
    back d (Err f) e = let same : f ≡ why = cc in ap Err same

    by_value : (r : Result Data FileFault) → ((r >>= λ d. (entries_of_value d >>= λ es. Ok (rewritten_file d)) >>= λ new. Ok (compact_text new)) ≡ Err why) ↔ ((r >>= entries_of_value) ≡ Err why)
    by_value (Ok d) = (by_entries d (entries_of_value d), back d (entries_of_value d))
    by_value (Err f) = ((λ e. let same : f ≡ why = cc in ap Err same), λ e. let same : f ≡ why = cc in ap Err same)
