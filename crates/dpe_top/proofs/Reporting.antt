-- A report that grows entry by entry.
use Rattle.std.proofs.lemmas.Option.{slice_get_within, get_or_from_slice_get}
use Rattle.std.proofs.lemmas.List.{take_more}
use Rattle.std.proofs.lemmas.List.Folds.{list_any-append, list_any-from_Any}
use Rattle.std.proofs.Common.{◌≡◌, ◌+◌, ℕ, true, false, refl, ◌∙◌, List, [], ◌∷◌, ◌++◌, take, Some}
use Rattle.std.specs.List.{slice_get}
use Rattle.query_json.specs.declared.entry.Entry.{Entry}
use Rattle.plan_report.specs.declared.report.Report.{Report}
use Rattle.plan_report.specs.Entries.{ReportEntry}
use Rattle.plan_report.specs.Reports.{Appends, Holds, format_of}
use Rattle.plan_report.proofs.Holdings.{holds_more}
use Rattle.dpe_words.specs.declared.choices.Settings.{Settings}
use Rattle.dpe_top.specs.Modes.Report.{IsEntrySaid, Says, is_refused, has_refused}

-- the report says this of the first i entries
pub record HasSaid (settings : Settings) (entries : List Entry) (i : ℕ) (report : Report) : Type 0 where
  pub said : List ReportEntry
  pub says : Says settings (take i entries) said
  pub holds : Holds report said
  pub format : format_of report ≡ settings.format

says_more : (settings : Settings) (entries : List Entry) (said : List ReportEntry) (entry : Entry) (more : ReportEntry)
    → Says settings entries said → IsEntrySaid settings entry.name entry.part more → Says settings (entries ++ (entry ∷ [])) (said ++ (more ∷ []))
says_more settings [] [] entry more s p = (p, tt)
says_more settings [] (x ∷ xs) entry more s p = absurd s
says_more settings (e ∷ es) [] entry more s p = absurd s
says_more settings (e ∷ es) (x ∷ xs) entry more s p = (s.0, says_more settings es xs entry more s.1 p)

-- the first entries and the next
pub take_next : {X : Type 0} (xs : List X) (i : ℕ) (x : X) → slice_get xs i ≡ Some x → take (i + 1) xs ≡ take i xs ++ (x ∷ [])
take_next xs i x e =
    rw (← get_or_from_slice_get xs i x x e) (take_more xs i x (slice_get_within xs i x e))

-- one entry more
pub said_more : (settings : Settings) (entries : List Entry) (i : ℕ) (old new : Report) (entry : Entry) (more : ReportEntry)
    → HasSaid settings entries i old → slice_get entries i ≡ Some entry → IsEntrySaid settings entry.name entry.part more → Appends old new more → HasSaid settings entries (i + 1) new
said_more settings entries i old new entry more has at part grown =
    record {
      said = has.said ++ (more ∷ []);
      says = rw (take_next entries i entry at) (says_more settings (take i entries) has.said entry more has.says part);
      holds = holds_more old new has.said more grown has.holds;
      format = grown.format ∙ has.format;
    }

pub refused_at : (entries : List Entry) (i : ℕ) (entry : Entry) → slice_get entries i ≡ Some entry → is_refused entry ≡ true → has_refused entries ≡ true
refused_at entries i entry at refused =
    list_any-from_Any is_refused entries (i, entry, slice_get_within entries i entry at, get_or_from_slice_get entries i entry entry at, refused)

pub none_more : (entries : List Entry) (i : ℕ) (entry : Entry) → slice_get entries i ≡ Some entry → has_refused (take i entries) ≡ false → is_refused entry ≡ false → has_refused (take (i + 1) entries) ≡ false
none_more entries i entry at none accepted =
    rw (take_next entries i entry at, list_any-append is_refused (take i entries) (entry ∷ []), none, accepted) refl
