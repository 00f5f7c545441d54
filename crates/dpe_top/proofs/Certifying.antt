-- Members that are made query by query, and what a planner's costs are.
use Rattle.std.proofs.Common.{◌≡◌, ◌∙◌, ◌<◌, ◌≤◌, ◌^◌, ◌+◌, ℕ, zero, suc, List, [], ◌∷◌, ◌++◌, Bool, true, false, ◌||◌, Option, Some, None, length, map, take, get_or, option_map, Result, Ok, refl, sym, ap, ap₂, arith}
use Rattle.std.specs.List.{slice_get}
use Rattle.std.specs.Prelude.{slice_index}
use Rattle.std.proofs.lemmas.List.{take_more, map_push}
use Rattle.std.proofs.lemmas.List.Folds.{list_any-append, list_any-from_Any}
use Rattle.dpe_base.specs.Queries.{JoinQuery, relations, IsQuery}
use Rattle.dpe_base.specs.Sets.{full}
use Rattle.join_tree.specs.TreeOf.{tree_of}
use Rattle.join_tree.specs.Trees.{Best, Plan}
use Rattle.cost_model.specs.Words.{word_cost}
use Rattle.cert_check.specs.Laws.{IsLeastCost}
use Rattle.cert_check.proofs.CertificateLaws.{best_words_have_least_costs}
use Rattle.serde_json.specs.Data.{Data}
use Rattle.serde_json.specs.Written.{compact_text}
use Rattle.cost_model.specs.declared.model.ModelKind.{ModelKind}
use Rattle.dpe_words.specs.declared.choices.Settings.{Settings}
use Rattle.query_json.specs.declared.fault.FileFault.{FileFault}
use Rattle.query_json.specs.Answer.{◌>>=◌}
use Rattle.query_json.specs.Entries.{entries_of_value}
use Rattle.query_forms.specs.Forms.{rewritten_file}
use Rattle.query_forms.specs.Rewriting.{rewritten}
use Rattle.plan_report.specs.Certs.{file_written}
use Rattle.plan_report.specs.Texts.{newline}
use Rattle.dpe_top.specs.declared.status.Outcome.{Outcome}
use Rattle.dpe_top.specs.Modes.Report.{model_number}
use Rattle.planner.specs.Costs.{AreBestCosts, IsCostedPlan}
use Rattle.planner.specs.declared.costs.CostedPlan.{CostedPlan}
use Rattle.query_json.specs.declared.entry.Entry.{Entry}
use Rattle.plan_report.specs.declared.certs.cert.Cert.{Cert}
use Rattle.plan_report.specs.Certs.Members.{Certificate, certificate_of, certificates_of}
use Rattle.dpe_top.specs.Modes.Certify.{AreMembers, Certifies, IsMember, WorkloadFile, certified, certify_outcome, is_null, some_null}
use Rattle.dpe_top.proofs.Reporting.{take_next}

-- the costs that a planner finds are the bounds of a certificate
pub costs_certify : (model : ℕ) (q : JoinQuery) (found : CostedPlan) → IsQuery q → IsCostedPlan model q found
    → Certifies model q (record { tree = tree_of found.tree; bounds = found.costs.items })
costs_certify model q found ok is = record {
  plan = is.plan;
  least = (is.costs.sized, λ s connected. least s (is.costs.least s connected));
  others = is.costs.others;
}
  where
    least : (s : ℕ) → (w : ℕ) × Best model q s w × (slice_index found.costs.items s ≡ word_cost w)
        → IsLeastCost model q s (slice_index found.costs.items s)
    least s best = rw best.2 (best_words_have_least_costs model q s best.0 ok best.1)

members_more : (model : ℕ) (es : List Entry) (cs : List (Option Certificate)) (e : Entry) (c : Option Certificate) → AreMembers model es cs
    → IsMember model e.part c → AreMembers model (es ++ e ∷ []) (cs ++ c ∷ [])
members_more model [] [] e c are is = (is, tt)
members_more model [] (d ∷ ds) e c are is = absurd are
members_more model (f ∷ fs) [] e c are is = absurd are
members_more model (f ∷ fs) (d ∷ ds) e c are is = (are.0, members_more model fs ds e c are.1 is)

-- one member more
pub member_more : (model : ℕ) (entries : List Entry) (old new : List (Option Cert)) (i : ℕ) (e : Entry) (m : Option Cert)
    → AreMembers model (take i entries) (certificates_of old) → slice_get entries i ≡ Some e
    → IsMember model e.part (option_map certificate_of m)
    → new ≡ old ++ m ∷ [] → AreMembers model (take (i + 1) entries) (certificates_of new)
member_more model entries old new i e m are at is made =
    rw (made, take_next entries i e at, map_push (option_map certificate_of) old m)
    (members_more model (take i entries) (certificates_of old) e (option_map certificate_of m) are is)

one_null : (c : Option Certificate) → some_null (c ∷ []) ≡ is_null c
one_null None = refl
one_null (Some c) = refl

next_null : (ms : List (Option Cert)) (i : ℕ) (m : Option Cert) → i < length ms → m ≡ get_or ms i m
    → some_null (certificates_of (take (i + 1) ms)) ≡ (some_null (certificates_of (take i ms)) || is_null (option_map certificate_of m))
next_null ms i m lt is =
    ap some_null (ap certificates_of (take_more ms i m lt ∙ ap (λ x. take i ms ++ x ∷ []) (sym is)) ∙ map_push
    (option_map certificate_of) (take i ms) m)
    ∙ list_any-append is_null (certificates_of (take i ms)) (option_map certificate_of m ∷ [])
    ∙ ap (λ b. some_null (certificates_of (take i ms)) || b) (one_null (option_map certificate_of m))

-- a member that isn't null
pub some_more : (ms : List (Option Cert)) (i : ℕ) (m : Option Cert) → i < length ms → m ≡ get_or ms i m
    → some_null (certificates_of (take i ms)) ≡ false → is_null (option_map certificate_of m) ≡ false
    → some_null (certificates_of (take (i + 1) ms)) ≡ false
some_more ms i m lt is none some = next_null ms i m lt is ∙ rw (none, some) refl

or_left : (a b : Bool) → a ≡ true → true ≡ (a || b)
or_left true b e = refl
or_left false b e = absurd cc

or_later : (a b : Bool) → true ≡ b → true ≡ (a || b)
or_later true b e = refl
or_later false b e = e

-- a member that is
pub null_at : (ms : List (Option Cert)) (i : ℕ) (m : Option Cert) → i < length ms → m ≡ get_or ms i m
    → is_null (option_map certificate_of m) ≡ true
    → true ≡ some_null (certificates_of ms)
null_at [] i m lt is e = absurd (omega (arith, lt))
null_at (y ∷ ms) zero m lt is e =
    or_left (is_null (option_map certificate_of y)) (some_null (certificates_of ms))
    (ap (λ x. is_null (option_map certificate_of x)) (sym is) ∙ e)
null_at (y ∷ ms) (suc i) m lt is e =
    or_later (is_null (option_map certificate_of y)) (some_null (certificates_of ms)) (null_at ms i m (omega (arith, lt)) is e)

-- ---- the file

-- a workload without a fault is written in version 2
pub same_file : (d : Data) (es : List Entry) (v : Data) → entries_of_value d ≡ Ok es → rewritten d ≡ Ok v → v ≡ rewritten_file d
unfolding rewritten
same_file d es v e is = sym (ok_same (rewritten_file d) v (sym (rw e refl) ∙ is))
  where
    ok_same : (x y : Data) → ◌≡◌ {A = Result Data FileFault} (Ok x) (Ok y) → x ≡ y
    ok_same x y e = cc

-- the members, the workload and the outcome make the answer
pub certified_by : (settings : Settings) (file : WorkloadFile) (members certs : List (Option Cert)) (model : ModelKind) (workload : Data)
    (outcome : Outcome) (text : List ℕ)
    → AreMembers (model_number settings.model) file.entries (certificates_of members) → certs ≡ members → model ≡ settings.model
    → workload ≡ rewritten_file file.value → outcome ≡ certify_outcome (some_null (certificates_of certs))
    → text ≡ compact_text (file_written model workload (certificates_of certs)) ++ newline → certified settings file outcome text
certified_by settings file members certs model workload outcome text are same by is ends reads = (
  certificates_of members,
  are,
  ends ∙ ap (λ ms. certify_outcome (some_null (certificates_of ms))) same,
  reads ∙ ap (λ ms. compact_text (file_written model workload (certificates_of ms)) ++ newline) same
      ∙ ap₂ (λ m d. compact_text (file_written m d (certificates_of members)) ++ newline) by is,
)
