-- Verdicts that are given member by member.
use Rattle.std.proofs.Common.{◌≡◌, ◌∙◌, ◌+◌, ◌<◌, ◌≤◌, ◌||◌, ℕ, zero, suc, List, [], ◌∷◌, ◌++◌, Bool, true, false, Option, Some, None, length, map, take, get_or, option_map, string_bytes, refl, sym, subst, ap, ap₂, append_assoc, append-nil, arith}
use Rattle.std.specs.List.{slice_get, list_any}
use Rattle.std.proofs.lemmas.Bool.{and_parts}
use Rattle.std.proofs.lemmas.List.{length-map, take_all, take_more, map_push}
use Rattle.std.proofs.lemmas.List.Folds.{list_any-append}
use Rattle.std.proofs.lemmas.Option.{same_Some, slice_get_within}
use Rattle.query_json.specs.declared.entry.Entry.{Entry}
use Rattle.plan_report.specs.declared.certs.cert.Cert.{Cert}
use Rattle.plan_report.specs.Certs.{all_suit, suits}
use Rattle.plan_report.specs.Certs.Members.{Certificate, certificate_of, certificates_of}
use Rattle.plan_report.proofs.CertMembers.{suited_length}
use Rattle.dpe_top.specs.declared.modes.check.Verdict.{Verdict}
use Rattle.dpe_top.specs.declared.modes.check.Verdicts.{Verdicts}
use Rattle.dpe_top.specs.Modes.Check.{AreVerdicts, IsVerdict, is_wrong, some_wrong, verdict_lines, verdicts_text}
use Rattle.dpe_top.proofs.Reporting.{take_next}

-- the verdicts on the first i members
pub record HaveChecked (model : ℕ) (entries : List Entry) (members : List (Option Cert)) (i : ℕ) (v : Verdicts) : Type 0 where
  pub verdicts : List Verdict
  pub are : AreVerdicts model (take i entries) (certificates_of (take i members)) verdicts
  pub wrong : v.wrong ≡ some_wrong verdicts
  pub text : string_bytes v.text ≡ verdicts_text (take i entries) verdicts

verdicts_more : (model : ℕ) (es : List Entry) (cs : List (Option Certificate)) (vs : List Verdict) (e : Entry) (c : Option Certificate)
    (v : Verdict)
    → AreVerdicts model es cs vs → IsVerdict model e.part c v → AreVerdicts model (es ++ e ∷ []) (cs ++ c ∷ []) (vs ++ v ∷ [])
verdicts_more model [] [] [] e c v are is = (is, tt)
verdicts_more model [] [] (w ∷ ws) e c v are is = absurd are
verdicts_more model [] (d ∷ ds) vs e c v are is = absurd are
verdicts_more model (f ∷ fs) [] vs e c v are is = absurd are
verdicts_more model (f ∷ fs) (d ∷ ds) [] e c v are is = absurd are
verdicts_more model (f ∷ fs) (d ∷ ds) (w ∷ ws) e c v are is = (are.0, verdicts_more model fs ds ws e c v are.1 is)

text_more : (model : ℕ) (es : List Entry) (cs : List (Option Certificate)) (vs : List Verdict) (e : Entry) (v : Verdict)
    → AreVerdicts model es cs vs
    → verdicts_text (es ++ e ∷ []) (vs ++ v ∷ []) ≡ verdicts_text es vs ++ verdict_lines e.name v
text_more model [] [] [] e v are = append-nil (verdict_lines e.name v)
text_more model [] [] (w ∷ ws) e v are = absurd are
text_more model [] (d ∷ ds) vs e v are = absurd are
text_more model (f ∷ fs) [] vs e v are = absurd are
text_more model (f ∷ fs) (d ∷ ds) [] e v are = absurd are
text_more model (f ∷ fs) (d ∷ ds) (w ∷ ws) e v are =
    ap (λ t. verdict_lines f.name w ++ t) (text_more model fs ds ws e v are.1)
    ∙ sym (append_assoc (verdict_lines f.name w) (verdicts_text fs ws) (verdict_lines e.name v))

one_wrong : (v : Verdict) → list_any is_wrong (v ∷ []) ≡ is_wrong v
one_wrong v = or_false (is_wrong v)
  where
    or_false : (b : Bool) → (b || false) ≡ b
    or_false true = refl
    or_false false = refl

members_next : (ms : List (Option Cert)) (i : ℕ) (m : Option Cert) → i < length ms → m ≡ get_or ms i m
    → certificates_of (take (i + 1) ms) ≡ certificates_of (take i ms) ++ option_map certificate_of m ∷ []
members_next ms i m lt is =
    ap certificates_of (take_more ms i m lt ∙ ap (λ x. take i ms ++ x ∷ []) (sym is)) ∙ map_push (option_map certificate_of) (take i ms) m

-- one member more
pub checked_more : (model : ℕ) (entries : List Entry) (members : List (Option Cert)) (i : ℕ) (old new : Verdicts) (e : Entry)
    (m : Option Cert) (v : Verdict)
    → HaveChecked model entries members i old → slice_get entries i ≡ Some e → i < length members → m ≡ get_or members i m
    → IsVerdict model e.part (option_map certificate_of m) v → new.wrong ≡ (old.wrong || is_wrong v)
    → string_bytes new.text ≡ string_bytes old.text ++ verdict_lines e.name v → HaveChecked model entries members (i + 1) new
checked_more model entries members i old new e m v has at lt is said wrong text = record {
  verdicts = has.verdicts ++ v ∷ [];
  are =
      rw (take_next entries i e at, members_next members i m lt is)
      (verdicts_more model (take i entries) (certificates_of (take i members)) has.verdicts e (option_map certificate_of m) v has.are said);
  wrong = wrong ∙ ap₂ (λ a b. a || b) has.wrong (sym (one_wrong v)) ∙ sym (list_any-append is_wrong has.verdicts (v ∷ []));
  text =
      text ∙ ap (λ t. t ++ verdict_lines e.name v) has.text
      ∙ sym (rw (take_next entries i e at) (text_more model (take i entries) (certificates_of (take i members)) has.verdicts e v has.are));
}

-- ---- the members of a file, each of which may stand for its query

-- there is a query at the place of each
pub query_at : (es : List Entry) (ms given : List (Option Cert)) (i : ℕ) → all_suit es (certificates_of ms) ≡ true → given ≡ ms
    → i < length given
    → i < length es
query_at es ms given i suit same lt =
    omega (arith, lt, ap length same, suited_length es (certificates_of ms) suit, length-map ms (option_map certificate_of))

alike : (x e : Entry) (y m : Option Cert) → x ≡ e → m ≡ y → suits x.part (option_map certificate_of y) ≡ true
    → suits e.part (option_map certificate_of m) ≡ true
alike x e y m same is suit = ap₂ (λ a b. suits a.part (option_map certificate_of b)) (sym same) is ∙ suit

suit_at : (es : List Entry) (ms : List (Option Cert)) (i : ℕ) (e : Entry) (m : Option Cert) → all_suit es (certificates_of ms) ≡ true
    → slice_get es i ≡ Some e → i < length ms → m ≡ get_or ms i m → suits e.part (option_map certificate_of m) ≡ true
suit_at [] ms i e m suit at lt is = absurd (omega (arith, slice_get_within [] i e at))
suit_at (x ∷ es) [] i e m suit at lt is = absurd (omega (arith, lt))
suit_at (x ∷ es) (y ∷ ms) zero e m suit at lt is =
    alike x e y m (same_Some x e at) is (and_parts (suits x.part (option_map certificate_of y)) (all_suit es (certificates_of ms)) suit).0
suit_at (x ∷ es) (y ∷ ms) (suc i) e m suit at lt is =
    suit_at es ms i e m (and_parts (suits x.part (option_map certificate_of y)) (all_suit es (certificates_of ms)) suit).1 at
    (omega (arith, lt)) is

-- the one at a place may stand for its query
pub suits_there : (es : List Entry) (ms given : List (Option Cert)) (i : ℕ) (e : Entry) (m : Option Cert)
    → all_suit es (certificates_of ms) ≡ true
    → given ≡ ms → slice_get es i ≡ Some e → i < length given → m ≡ get_or given i m → suits e.part (option_map certificate_of m) ≡ true
suits_there es ms given i e m suit same at lt is =
    suit_at es ms i e m suit at (omega (arith, lt, ap length same)) (is ∙ ap (λ xs. get_or xs i m) same)

-- one member more of those at hand
pub given_more : (model : ℕ) (entries : List Entry) (members given : List (Option Cert)) (i : ℕ) (old new : Verdicts) (e : Entry)
    (m : Option Cert) (v : Verdict)
    → given ≡ members → HaveChecked model entries members i old → slice_get entries i ≡ Some e → i < length given → m ≡ get_or given i m
    → IsVerdict model e.part (option_map certificate_of m) v → new.wrong ≡ (old.wrong || is_wrong v)
    → string_bytes new.text ≡ string_bytes old.text ++ verdict_lines e.name v → HaveChecked model entries members (i + 1) new
given_more model entries members given i old new e m v same has at lt is said wrong text =
    checked_more model entries members i old new e m v has at (omega (arith, lt, ap length same)) (is ∙ ap (λ xs. get_or xs i m) same)
    said wrong text

-- all members
pub all_checked : (model : ℕ) (entries : List Entry) (members given : List (Option Cert)) (i : ℕ) (v : Verdicts)
    → all_suit entries (certificates_of members) ≡ true → given ≡ members → HaveChecked model entries members i v → length given ≤ i
    → (verdicts : List Verdict) × AreVerdicts model entries (certificates_of members) verdicts × (v.wrong ≡ some_wrong verdicts)
    × (string_bytes v.text ≡ verdicts_text entries verdicts)
all_checked model entries members given i v suit same has end =
    let both : take i members ≡ members = take_all i members (omega (arith, end, ap length same)) in
    let whole : take i entries ≡ entries =
    take_all i entries
    (omega (
      arith,
      end,
      ap length same,
      suited_length entries (certificates_of members) suit,
      length-map members
          (option_map certificate_of),
    )) in
    let are : AreVerdicts model entries (certificates_of members) has.verdicts =
    subst (λ (es : List Entry). AreVerdicts model es (certificates_of members) has.verdicts) whole
    (subst (λ (ms : List (Option Cert)). AreVerdicts model (take i entries) (certificates_of ms) has.verdicts) both has.are) in
    (has.verdicts, are, has.wrong, has.text ∙ ap (λ es. verdicts_text es has.verdicts) whole)
