-- A report that gains an entry holds one more.
use Rattle.std.proofs.Common.{List, [], ◌∷◌, ◌++◌, ◌∙◌, sym, ap}
use Rattle.std.proofs.lemmas.List.{map-append, flat_map_more}
use Rattle.plan_report.specs.declared.report.Report.{Report}
use Rattle.plan_report.specs.Entries.{ReportEntry}
use Rattle.plan_report.specs.Json.{entry_data}
use Rattle.plan_report.specs.Reports.{Appends, Holds}
use Rattle.plan_report.specs.Texts.{entry_text}

pub holds_more : (old new : Report) (entries : List ReportEntry) (e : ReportEntry) → Appends old new e → Holds old entries → Holds new (entries ++ e ∷ [])
holds_more old new entries e added held =
    record {
      in_text = λ f.
          let g = sym added.format ∙ f in
          added.in_text g ∙ ap (λ t. t ++ entry_text e) (held.in_text g) ∙ flat_map_more entry_text [] entries e;
      in_json = λ f.
          let g = sym added.format ∙ f in
          added.in_json g ∙ ap (λ ds. ds ++ entry_data e ∷ []) (held.in_json g) ∙ sym (map-append entry_data entries (e ∷ []));
    }
