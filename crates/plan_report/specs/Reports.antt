-- What a report holds, how an entry adds to it, and its bytes.
use Rattle.std.specs.Prelude.{◌≡◌, ℕ, List, [], ◌∷◌, ◌++◌, map, string_bytes}
use Rattle.std.specs.List.{flat_map}
use Rattle.serde_json.specs.Data.{Data}
use Rattle.plan_report.specs.declared.report.Format.{Format}
use Rattle.plan_report.specs.declared.report.Format.TheVariants.{Text, Json}
use Rattle.plan_report.specs.declared.report.Report.{Report}
use Rattle.plan_report.specs.Entries.{ReportEntry}
use Rattle.plan_report.specs.Json.{entry_data, report_line, values_of}
use Rattle.plan_report.specs.Texts.{entry_text}

abbrev pub format_of : Report → Format
format_of r = r.format

-- the text so far
abbrev pub text_in : Report → List ℕ
text_in r = string_bytes r.text

-- the entries so far, as JSON
abbrev pub entries_in : Report → List Data
entries_in r = values_of r.entries.items

-- the new report has one entry more at its end
pub record Appends (old new : Report) (entry : ReportEntry) : Type 0 where
  pub format : format_of new ≡ format_of old
  pub in_text : format_of old ≡ Text → text_in new ≡ text_in old ++ entry_text entry
  pub in_json : format_of old ≡ Json → entries_in new ≡ entries_in old ++ entry_data entry ∷ []

-- the report is as before
pub record Keeps (old new : Report) : Type 0 where
  pub format : format_of new ≡ format_of old
  pub in_text : text_in new ≡ text_in old
  pub in_json : entries_in new ≡ entries_in old

-- the bytes of a report of these entries
abbrev pub report_bytes : Format → List ReportEntry → List ℕ
report_bytes Text entries = flat_map entry_text entries
report_bytes Json entries = report_line (map entry_data entries)

-- the report has these entries
pub record Holds (r : Report) (entries : List ReportEntry) : Type 0 where
  pub in_text : format_of r ≡ Text → text_in r ≡ flat_map entry_text entries
  pub in_json : format_of r ≡ Json → entries_in r ≡ map entry_data entries
