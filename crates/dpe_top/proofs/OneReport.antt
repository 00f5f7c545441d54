-- Settings that show alike have one report of the entries.
use Rattle.std.proofs.Common.{◌≡◌, ℕ, false, refl, sym, ◌∙◌, ap, subst, List, [], ◌∷◌, Option, Some, None, Ok}
use Rattle.std.specs.Prelude.{All}
use Rattle.std.proofs.lemmas.List.Elements.{All-head, All-tail}
use Rattle.dpe_base.specs.Queries.{JoinQuery, IsQuery, relations}
use Rattle.dpe_base.specs.Sets.{full}
use Rattle.join_graph.specs.Graphs.{JoinGraph, graph_of}
use Rattle.join_tree.specs.Trees.{JoinTree}
use Rattle.plan_space.specs.declared.class.Class.{Class}
use Rattle.plan_space.proofs.ClassPlans.{connected_sets_have_one_plan_in}
use Rattle.planner.specs.Classes.{IsPlanAmong}
use Rattle.planner.specs.Plans.{IsPairCountIn}
use Rattle.dpe_top.specs.Classes.{class_of}
use Rattle.join_tree.proofs.OnePlan.{plan_same}
use Rattle.query_json.specs.declared.entry.Entry.{Entry}
use Rattle.query_json.specs.declared.entry.Named.{Named}
use Rattle.query_json.specs.declared.entry.Part.{Part}
use Rattle.query_json.specs.declared.entry.Part.TheVariants.{Accepted, Refused}
use Rattle.query_json.specs.declared.refusal.QueryRefusal.{QueryRefusal}
use Rattle.query_json.specs.Sound.{IsEntrySound, IsPartSound, IsSound}
use Rattle.plan_report.specs.declared.entry.Stats.{Stats}
use Rattle.plan_report.specs.declared.report.Format.{Format}
use Rattle.plan_report.specs.Entries.{PlannedQuery, ReportEntry, planned, refused}
use Rattle.plan_report.specs.Reports.{report_bytes}
use Rattle.dpe_words.specs.declared.choices.Settings.{Settings}
use Rattle.dpe_top.specs.Statistics.{stats_of, stats_with}
use Rattle.query_json.specs.Entries.{entries_of}
use Rattle.dpe_top.specs.Modes.Report.{IsPlanned, IsEntrySaid, Says, IsReport, model_number}
use Rattle.dpe_top.proofs.SoundFiles.{sound_entries}
use Rattle.dpe_top.proofs.OneSample.{one_number_in, ap_cons}

-- what a report shows of its settings
record ShowAlike (settings other : Settings) : Type 0 where
  class : class_of settings.mode ≡ class_of other.mode
  model : settings.model ≡ other.model
  format : settings.format ≡ other.format
  stats : (g : JoinGraph) → stats_of settings g ≡ stats_of other g

described : ℕ → List ℕ → Named → JoinTree → ℕ → Option Stats → PlannedQuery
described model name named tree pairs stats =
    record { name = name; aliases = named.aliases; kind = model; query = named.query; tree = tree; pairs = pairs; stats = stats }

same_described : (model other : ℕ) (name : List ℕ) (named : Named) (t u : JoinTree) (m n : ℕ) (v w : Option Stats)
    → model ≡ other → t ≡ u → m ≡ n → v ≡ w → described model name named t m v ≡ described other name named u n w
same_described model other name named t u m n v w k e f g = cc

-- one plan, among all trees or those of a class
one_plan : (class : Option Class) (model : ℕ) (q : JoinQuery) (s : ℕ) (t u : JoinTree) → IsQuery q
    → IsPlanAmong class model q s t → IsPlanAmong class model q s u → t ≡ u
one_plan None model q s t u ok a b = plan_same model q s t u ok a b
one_plan (Some c) model q s t u ok a b = (connected_sets_have_one_plan_in c model q s ok).1 t u a b

one_planned : (settings other : Settings) (name : List ℕ) (named : Named) (x y : PlannedQuery) → ShowAlike settings other → IsSound named
    → IsPlanned settings name named x → IsPlanned other name named y → x ≡ y
unfolding described
one_planned settings other name named x y alike sound a b =
    let models : model_number settings.model ≡ model_number other.model = ap model_number alike.model in
    let all = full (relations named.query) in
    let class = class_of settings.mode in
    let by_class = subst (λ (c : Option Class). IsPlanAmong c (model_number other.model) named.query all y.tree) (sym alike.class) b.plan in
    let plan = subst (λ (k : ℕ). IsPlanAmong class k named.query all y.tree) (sym models) by_class in
    let trees : x.tree ≡ y.tree = one_plan class (model_number settings.model) named.query all x.tree y.tree sound.valid a.plan plan in
    let count = subst (λ (c : Option Class). IsPairCountIn c named.query y.pairs) (sym alike.class) b.pairs in
    let numbers : x.pairs ≡ y.pairs = one_number_in class named.query x.pairs y.pairs a.pairs count in
    let stats : x.stats ≡ y.stats = a.stats ∙ alike.stats (graph_of named.query) ∙ sym b.stats in
    a.rest ∙ same_described (model_number settings.model) (model_number other.model) name named x.tree y.tree x.pairs y.pairs x.stats y.stats models trees numbers stats
    ∙ sym b.rest

same_refused : (name m n : List ℕ) (why v w : QueryRefusal) → m ≡ name → v ≡ why → n ≡ name → w ≡ why → refused m v ≡ refused n w
same_refused name m n why v w e f g h = cc

one_part : (settings other : Settings) (name : List ℕ) (part : Part) (x y : ReportEntry) → ShowAlike settings other → IsPartSound part
    → IsEntrySaid settings name part x → IsEntrySaid other name part y → x ≡ y
one_part settings other name (Accepted named) (planned x) (planned y) alike sound a b =
    ap planned (one_planned settings other name named x y alike sound a b)
one_part settings other name (Accepted named) (planned x) (refused n w) alike sound a b = absurd b
one_part settings other name (Accepted named) (refused m v) y alike sound a b = absurd a
one_part settings other name (Refused why) (planned x) y alike sound a b = absurd a
one_part settings other name (Refused why) (refused m v) (planned y) alike sound a b = absurd b
one_part settings other name (Refused why) (refused m v) (refused n w) alike sound a b = same_refused name m n why v w a.0 a.1 b.0 b.1

same_said : (settings other : Settings) (entries : List Entry) (first second : List ReportEntry) → ShowAlike settings other
    → All IsEntrySound entries → Says settings entries first → Says other entries second → first ≡ second
same_said settings other [] [] [] alike sound a b = refl
same_said settings other [] [] (y ∷ ys) alike sound a b = absurd b
same_said settings other [] (x ∷ xs) second alike sound a b = absurd a
same_said settings other (entry ∷ rest) [] second alike sound a b = absurd a
same_said settings other (entry ∷ rest) (x ∷ xs) [] alike sound a b = absurd b
same_said settings other (entry ∷ rest) (x ∷ xs) (y ∷ ys) alike sound a b =
    ap_cons x y xs ys
    (one_part settings other entry.name entry.part x y alike (All-head IsEntrySound entry rest sound) a.0 b.0)
    (same_said settings other rest xs ys alike (All-tail IsEntrySound entry rest sound) a.1 b.1)

same_report : (settings other : Settings) (entries : List Entry) (first second : List ℕ) → ShowAlike settings other
    → All IsEntrySound entries → IsReport settings entries first → IsReport other entries second → first ≡ second
same_report settings other entries first second alike sound a b =
    a.2 ∙ ap (report_bytes settings.format) (same_said settings other entries a.0 b.0 alike sound a.1 b.1)
    ∙ ap (λ (f : Format). report_bytes f b.0) alike.format ∙ sym b.2

pub one_report : (settings : Settings) (bytes : List ℕ) (entries : List Entry) (first second : List ℕ) → entries_of bytes ≡ Ok entries
    → IsReport settings entries first → IsReport settings entries second → first ≡ second
one_report settings bytes entries first second read a b =
    same_report settings settings entries first second (record { class = refl; model = refl; format = refl; stats = λ g. refl }) (sound_entries bytes entries read) a b

alike_workers : (settings : Settings) (n : ℕ) → ShowAlike settings (record settings { workers = n })
alike_workers settings n = record { class = refl; model = refl; format = refl; stats = λ g. refl }

pub workers_do_not_show : (settings other : Settings) (bytes : List ℕ) (entries : List Entry) (first second : List ℕ) → entries_of bytes ≡ Ok entries
    → other ≡ record settings { workers = other.workers } → IsReport settings entries first → IsReport other entries second → first ≡ second
workers_do_not_show settings other bytes entries first second read same a b =
    same_report settings other entries first second
    (subst (λ (s : Settings). ShowAlike settings s) (sym same) (alike_workers settings other.workers)) (sound_entries bytes entries read) a b

no_stats : (settings : Settings) (m n k : ℕ) → settings.stats ≡ false → stats_with settings m n k ≡ None
no_stats settings m n k off = rw off refl

alike_without : (settings other : Settings) → settings.stats ≡ false → other.stats ≡ false → class_of settings.mode ≡ class_of other.mode
    → settings.model ≡ other.model → settings.format ≡ other.format
    → ShowAlike settings other
alike_without settings other off also class model format =
    record { class = class; model = model; format = format; stats = λ g. no_stats settings _ _ _ off ∙ sym (no_stats other _ _ _ also) }

pub only_statistics_show_the_enumerator : (settings other : Settings) (bytes : List ℕ) (entries : List Entry) (first second : List ℕ)
    → entries_of bytes ≡ Ok entries → settings.stats ≡ false
    → other ≡ record settings { enumerator = other.enumerator; buffer = other.buffer; workers = other.workers }
    → IsReport settings entries first → IsReport other entries second → first ≡ second
only_statistics_show_the_enumerator settings other bytes entries first second read off same a b =
    same_report settings other entries first second
    (alike_without settings other off (ap (λ (s : Settings). s.stats) same ∙ off) (sym (ap (λ (s : Settings). class_of s.mode) same))
    (sym (ap (λ (s : Settings). s.model) same)) (sym (ap (λ (s : Settings). s.format) same)))
    (sound_entries bytes entries read) a b
