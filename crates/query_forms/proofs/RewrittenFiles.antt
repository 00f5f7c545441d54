-- A rewritten file has no fault and the same entries, and is itself when it is rewritten again.
use Rattle.std.proofs.Common.{◌≡◌, ℕ, List, Result, Ok, Err, refl, sym, ap, ◌∙◌, subst}
use Rattle.serde_json.specs.Data.{Data}
use Rattle.serde_json.specs.Written.{compact_text}
use Rattle.query_json.specs.declared.entry.Entry.{Entry}
use Rattle.query_json.specs.declared.fault.FileFault.{FileFault}
use Rattle.query_json.specs.Answer.{◌>>=◌}
use Rattle.query_json.specs.Entries.{entries_of, entries_of_value}
use Rattle.query_json.specs.Walk.{json_at}
use Rattle.query_forms.specs.Forms.{rewritten_file}
use Rattle.query_forms.specs.Laws.{RewritingAgainChangesNothing, RewrittenValuesHoldTheSame}
use Rattle.query_forms.specs.Rewriting.{rewritten, rewritten_text}
use Rattle.query_forms.proofs.Again.{file_again}
use Rattle.query_forms.proofs.Alike.{entries_keep}

-- what was rewritten had entries
pub had_entries : (d new : Data) → rewritten d ≡ Ok new → (entries : List Entry) × (entries_of_value d ≡ Ok entries) × (rewritten_file d ≡ new)
unfolding rewritten
had_entries d new e = by_entries (entries_of_value d) refl e
  where
    by_entries : (r : Result (List Entry) FileFault) → entries_of_value d ≡ r → (r >>= λ entries. Ok (rewritten_file d)) ≡ Ok new
        → (entries : List Entry) × (entries_of_value d ≡ Ok entries) × (rewritten_file d ≡ new)
    by_entries (Ok entries) is e = let same : rewritten_file d ≡ new = cc in (entries, is, same)
    by_entries (Err fault) is e = absurd cc

pub hold_the_same : RewrittenValuesHoldTheSame
hold_the_same d new e =
    let had = had_entries d new e in
    (had.0, had.1, subst (λ (v : Data). entries_of_value v ≡ Ok had.0) had.2 (entries_keep d had.0 had.1))

pub again_the_same : RewritingAgainChangesNothing
unfolding rewritten
again_the_same d new e =
    let had = had_entries d new e in
    let held = hold_the_same d new e in
    let itself : rewritten_file new ≡ new = ap rewritten_file (sym had.2) ∙ file_again d ∙ had.2 in
    ap (λ r. r >>= λ entries. Ok (rewritten_file new)) held.2 ∙ ap Ok itself

-- ---- texts

-- a text that reads as what was rewritten holds the same entries
pub texts_hold_the_same : (bytes text : List ℕ) (d new : Data) → json_at bytes ≡ Ok d → json_at text ≡ Ok new → rewritten d ≡ Ok new
    → (entries : List Entry) × (entries_of bytes ≡ Ok entries) × (entries_of text ≡ Ok entries)
unfolding entries_of
texts_hold_the_same bytes text d new before after e =
    let held = hold_the_same d new e in
    (held.0, ap (λ r. r >>= entries_of_value) before ∙ held.1, ap (λ r. r >>= entries_of_value) after ∙ held.2)

-- and where it is the compact text, it stays as it is
pub text_stays : (text : List ℕ) (d new : Data) → json_at text ≡ Ok new → rewritten d ≡ Ok new → text ≡ compact_text new → rewritten_text text ≡ Ok text
unfolding rewritten_text
text_stays text d new after e same =
    ap (λ r. r >>= λ v. rewritten v >>= λ w. Ok (compact_text w)) after
    ∙ ap (λ r. r >>= λ w. Ok (compact_text w)) (again_the_same d new e)
    ∙ ap Ok (sym same)
