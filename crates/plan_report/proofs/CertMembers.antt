-- Members one after the other, as a loop looks at them.
use Rattle.std.proofs.Common.{◌≡◌, ◌∙◌, ◌+◌, ◌<◌, ℕ, suc, List, [], ◌∷◌, length, drop, get_or, Bool, true, false, ◌&&◌, Option, Some, option_map, refl, sym, ap, ap₂, arith}
use Rattle.std.specs.List.{slice_get}
use Rattle.std.proofs.lemmas.Bool.{and_parts}
use Rattle.std.proofs.lemmas.List.{drop_more}
use Rattle.std.proofs.lemmas.Option.{slice_get_within, get_or_from_slice_get}
use Rattle.query_json.specs.declared.entry.Entry.{Entry}
use Rattle.plan_report.specs.declared.certs.cert.Cert.{Cert}
use Rattle.plan_report.specs.Certs.{all_suit, suits}
use Rattle.plan_report.specs.Certs.Members.{Certificate, certificate_of, certificates_of}

-- there is one for each query
pub suited_length : (es : List Entry) (cs : List (Option Certificate)) → all_suit es cs ≡ true → length es ≡ length cs
suited_length [] [] h = refl
suited_length [] (c ∷ cs) h = absurd cc
suited_length (e ∷ es) [] h = absurd cc
suited_length (e ∷ es) (c ∷ cs) h = ap suc (suited_length es cs (and_parts (suits e.part c) (all_suit es cs) h).1)

pub other_length : (es : List Entry) (ms : List (Option Cert)) → (length ms ≡ length es → ⊥) → false ≡ all_suit es (certificates_of ms)
other_length [] [] h = absurd (h refl)
other_length [] (m ∷ ms) h = refl
other_length (e ∷ es) [] h = refl
other_length (e ∷ es) (m ∷ ms) h = by (suits e.part (option_map certificate_of m)) (other_length es ms (λ same. h (ap suc same)))
  where
    by : (b : Bool) {c : Bool} → false ≡ c → false ≡ (b && c)
    by true later = later
    by false later = refl

-- the members from place i on
pub suit_more : (es : List Entry) (ms : List (Option Cert)) (i : ℕ) (e : Entry) (m : Option Cert)
    → slice_get es i ≡ Some e → i < length ms → m ≡ get_or ms i m
    → all_suit (drop i es) (certificates_of (drop i ms))
    ≡ (suits e.part (option_map certificate_of m) && all_suit (drop (i + 1) es) (certificates_of (drop (i + 1) ms)))
suit_more es ms i e m at lt is =
    let entry : drop i es ≡ e ∷ drop (i + 1) es =
    drop_more es i e (slice_get_within es i e at) ∙ ap (λ x. x ∷ drop (i + 1) es) (get_or_from_slice_get es i e e at) in
    let next : drop i ms ≡ m ∷ drop (i + 1) ms = drop_more ms i m lt ∙ ap (λ x. x ∷ drop (i + 1) ms) (sym is) in
    ap₂ (λ xs ys. all_suit xs (certificates_of ys)) entry next

-- one that may not stand for its query
pub unsuited : (whole first later : Bool) → whole ≡ (first && later) → first ≡ false → false ≡ whole
unsuited whole true later e off = absurd cc
unsuited whole false later e off = sym e

pub suited : (first later : Bool) → first ≡ true → (first && later) ≡ later
suited true later on = refl
suited false later on = absurd cc
