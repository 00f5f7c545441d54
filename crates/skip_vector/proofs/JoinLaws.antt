-- A scan that goes on after a free entry looks at what the whole scan would have looked at.
use Rattle.std.proofs.Common.{◌≡◌, ◌≢◌, ℕ, zero, suc, ◌+◌, ◌-◌, ◌^◌, ◌<◌, ◌≤◌, List, length, slice_index, Bool, true, false, ◌||◌, refl, sym, ◌∙◌, ap, subst, arith, nat_eq, inl, inr, add-suc, add-zero}
use Rattle.std.proofs.lemmas.Bool.{cases_lt}
use Rattle.std.specs.Cmp.Lexicographic.{pointwise}
use Rattle.dpe_base.specs.Sets.{Disjoint, Meets, members}
use Rattle.skip_vector.specs.Skips.{first_relations, blocking_prefix, IsPart, IsFirstFree, has_blocking_prefix, is_probed, probes, probes_from}
use Rattle.skip_vector.proofs.PrefixLaws.{HasIn, hasin_from, hasin_meets}
use Rattle.skip_vector.proofs.ProbeLaws.{take-between, blocking_same, blocking_has, blocking_first, blocking_new, free_or_meets, free_true}

-- the places before and the places after
has_blocking_cut : (part : List ℕ) (x : ℕ) (p : List ℕ) (from m k : ℕ) → has_blocking_prefix part x p from (m + k) ≡ (has_blocking_prefix part x p from m || has_blocking_prefix part x p (from + m) k)
unfolding has_blocking_prefix
has_blocking_cut part x p from m zero = rw add-zero (sym (or_false (has_blocking_prefix part x p from m)))
  where
    or_false : (b : Bool) → (b || false) ≡ b
    or_false true = refl
    or_false false = refl
has_blocking_cut part x p from m (suc k) =
    let e : from + (m + k) ≡ from + m + k = omega arith in
    rw (add-suc, has_blocking_cut part x p from m k, e) (or_assoc (has_blocking_prefix part x p from m) (has_blocking_prefix part x p (from + m) k) (pointwise nat_eq (blocking_prefix x (slice_index part (from + m + k))) p))
  where
    or_assoc : (a b c : Bool) → (a || b || c) ≡ (a || (b || c))
    or_assoc true b c = refl
    or_assoc false b c = refl

-- a blocked entry after a free one has another blocking prefix than each before it
cut_by_free : (part : List ℕ) (x j v w : ℕ) → IsPart part → j < v → v < w → w < length part → Disjoint (slice_index part v) x → HasIn x (members (slice_index part w)) → blocking_prefix x (slice_index part j) ≢ blocking_prefix x (slice_index part w)
cut_by_free part x j v w ok a b l free h e =
    let ej : ℕ = slice_index part j in
    let ev : ℕ = slice_index part v in
    let ew : ℕ = slice_index part w in
    let hj : HasIn x (members ej) = blocking_has ew ej x h e in
    let ends : first_relations (length (blocking_prefix x ej)) ej ≡ first_relations (length (blocking_prefix x ej)) ew = sym (blocking_first ej ew x (sym e)) in
    let between : first_relations (length (blocking_prefix x ej)) ev ≡ first_relations (length (blocking_prefix x ej)) ej =
    take-between (length (blocking_prefix x ej)) (members ej) (members ev) (members ew) (ok.ascends j v a (omega arith)) (ok.ascends v w b l) ends in
    let same : blocking_prefix x ev ≡ blocking_prefix x ej = blocking_same ej ev x hj between in
    let m : Meets ev x = hasin_meets ev x (blocking_has ej ev x hj same) in
    free m.0 m.1 m.2

-- whether a place after a free one is probed does not depend on what lies before that one
probed_same : (part : List ℕ) (from x n k : ℕ) → IsPart part → ((i : ℕ) → i < length part → slice_index part i < 2 ^ 32) → Disjoint (slice_index part (from + n)) x → from + suc n + k < length part → is_probed part from x (suc n + k) ≡ is_probed part (from + suc n) x k
unfolding is_probed
probed_same part from x n k ok small free l =
    let e : from + (suc n + k) ≡ from + suc n + k = omega arith in
    elim (free_or_meets (slice_index part (from + suc n + k)) x) [
      | inl z ↦ rw (e, free_true _ x z) refl
      | inr met ↦
          let w : ℕ = from + suc n + k in
          let h : HasIn x (members (slice_index part w)) = hasin_from (slice_index part w) x (small w l) met in
          let none : has_blocking_prefix part x (blocking_prefix x (slice_index part w)) from (suc n) ≡ false =
          blocking_new part x (blocking_prefix x (slice_index part w)) from (suc n) (λ m lt. not_before m lt h) in
          rw (e, has_blocking_cut part x (blocking_prefix x (slice_index part w)) from (suc n) k, none) refl
    ]
  where
    not_before : (m : ℕ) → m < suc n → HasIn x (members (slice_index part (from + suc n + k))) → blocking_prefix x (slice_index part (from + m)) ≢ blocking_prefix x (slice_index part (from + suc n + k))
    not_before m lt h =
        elim (cases_lt m n) [
          | inl b ↦ cut_by_free part x (from + m) (from + n) (from + suc n + k) ok (omega arith) (omega arith) l free h
          | inr ge ↦
              let q : m ≡ n = omega arith in
              λ e.
              let m : Meets (slice_index part (from + n)) x = hasin_meets _ x (blocking_has _ _ x h (ap (λ j. blocking_prefix x (slice_index part (from + j))) (sym q) ∙ e)) in
              free m.0 m.1 m.2
        ]

probes_join : (part : List ℕ) (from x n k : ℕ) → IsPart part → ((i : ℕ) → i < length part → slice_index part i < 2 ^ 32) → Disjoint (slice_index part (from + n)) x → from + suc n + k ≤ length part → probes part from x (suc n + k) ≡ probes part from x (suc n) + probes part (from + suc n) x k
unfolding probes
probes_join part from x n zero ok small free l = rw add-zero (omega arith)
probes_join part from x n (suc k) ok small free l =
    let one : is_probed part from x (suc n + k) ≡ is_probed part (from + suc n) x k = probed_same part from x n k ok small free (omega arith) in
    rw (add-suc, one) (omega (arith, probes_join part from x n k ok small free (omega arith)))

-- the probes of a scan are those up to what it finds and those of the scan from there on
pub probes_rest : (part : List ℕ) (x from place entry : ℕ) → IsPart part → ((i : ℕ) → i < length part → slice_index part i < 2 ^ 32) → IsFirstFree part x from place entry → probes_from part from x ≡ probes part from x (place + 1 - from) + probes_from part (place + 1) x
probes_rest part x from place entry ok small f =
    let n : ℕ = place - from in
    let k : ℕ = length part - (place + 1) in
    let there : from + n ≡ place = omega (arith, f.from_on) in
    let free : Disjoint (slice_index part (from + n)) x = subst (λ (s : ℕ). Disjoint s x) (f.entry_is ∙ ap (slice_index part) (sym there)) f.free in
    let a : length part - from ≡ suc n + k = omega (arith, f.from_on, f.within) in
    let b : place + 1 - from ≡ suc n = omega (arith, f.from_on) in
    let c : from + suc n ≡ place + 1 = omega (arith, f.from_on) in
    ap (probes part from x) a
    ∙ probes_join part from x n k ok small free (omega (arith, f.within, f.from_on))
    ∙ ap (λ j. probes part from x j + probes part (from + suc n) x k) (sym b)
    ∙ ap (λ j. probes part from x (place + 1 - from) + probes part j x k) c
