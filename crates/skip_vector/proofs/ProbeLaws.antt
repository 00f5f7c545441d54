-- A scan by skips looks at each free entry and at the first entry of each blocking prefix.
use Rattle.std.proofs.Common.{◌≡◌, ◌≢◌, ◌↔◌, IsTrue, ℕ, zero, suc, ◌+◌, ◌-◌, ◌<◌, ◌≤◌, List, [], ◌∷◌, ◌++◌, length, take, slice_index, true, false, if◌then◌else◌, refl, sym, ◌∙◌, ap, subst, arith, inl, inr, ◌⊎◌, nat_cmp, nat_eq, add-suc, add-zero, get_or}
use Rattle.std.specs.Cmp.Lexicographic.{pointwise, slice_cmp}
use Rattle.std.specs.Cmp.{nat_cmp_is}
use Rattle.std.specs.Ordering.{ordering_then}
use Rattle.std.specs.declared.cmp.Ordering.TheVariants.{Less, Equal, Greater}
use Rattle.std.proofs.lemmas.Bool.{cases_eq, cases_lt, ne_eqb, eq-eqb, false_from_ne_true, or_right, true≢false}
use Rattle.dpe_base.specs.Sets.{member, Disjoint, Meets, inter, members, list_order}
use Rattle.std.proofs.Math.ListN.{get_or-append}
use Rattle.std.proofs.lemmas.List.{get_or_push}
use Rattle.std.proofs.lemmas.Slice.Eq.{bytes_eq-Decides}
use Rattle.dpe_base.proofs.SetLaws.{disjoint_by_inter}
use Rattle.dpe_base.proofs.SizeLaws.{meets_by_inter, meets_true}
use Rattle.dpe_base.proofs.ListOrder.{order_same}
use Rattle.skip_vector.proofs.PrefixLaws.{HasIn, hasin_meets, up_to_here, up_to_later}
use Rattle.skip_vector.specs.declared.column.Column.{Column}
use Rattle.skip_vector.specs.Skips.{first_relations, up_to, blocking_prefix, is_free, IsPart, IsAfter, has_blocking_prefix, is_probed, probes, NoneFree, IsFirstFree, IsColumn, IsProbed}

-- ---- lists

-- it is a front of the list
up_to-take : (x : ℕ) (rs : List ℕ) → take (length (up_to x rs)) rs ≡ up_to x rs
unfolding up_to
up_to-take x [] = refl
up_to-take x (r ∷ rs) =
    elim (cases_eq (member x r) 1) [
      | inl e ↦ rw e refl
      | inr ne ↦ rw (ne_eqb (member x r) 1 ne) (ap (λ l. r ∷ l) (up_to-take x rs))
    ]

-- a list with the same front has the same front up to x
up_to_same : (x : ℕ) (rs ss : List ℕ) → HasIn x rs → take (length (up_to x rs)) ss ≡ take (length (up_to x rs)) rs → up_to x ss ≡ up_to x rs
unfolding HasIn
up_to_same x [] ss h e = absurd h
up_to_same x (r ∷ rs) [] h e =
    elim (cases_eq (member x r) 1) [
      | inl is ↦ let f = rw (up_to_here x r rs is) at e in cc
      | inr ne ↦ let f = rw (up_to_later x r rs ne) at e in cc
    ]
up_to_same x (r ∷ rs) (s ∷ ss) h e =
    elim (cases_eq (member x r) 1) [
      | inl is ↦
          let f = rw (up_to_here x r rs is) at e in
          let g : s ≡ r = cc in
          rw g (up_to_here x r ss is ∙ sym (up_to_here x r rs is))
      | inr ne ↦
          let f = rw (up_to_later x r rs ne) at e in
          let g : s ≡ r = cc in
          let k : take (length (up_to x rs)) ss ≡ take (length (up_to x rs)) rs = cc in
          let rest : HasIn x rs = elim h [ inl is ↦ absurd (ne is) | inr later ↦ later ] in
          rw g (up_to_later x r ss ne ∙ ap (λ l. r ∷ l) (up_to_same x rs ss rest k) ∙ sym (up_to_later x r rs ne))
    ]

-- two lists in order differ first where the lesser has the lesser number
heads : (r s : ℕ) (rs ss : List ℕ) → slice_cmp nat_cmp (r ∷ rs) (s ∷ ss) ≡ Less → (r < s) ⊎ ((r ≡ s) × (slice_cmp nat_cmp rs ss ≡ Less))
heads r s rs ss h =
    elim (cases_lt r s) [
      | inl lt ↦ inl lt
      | inr ge ↦ elim (cases_lt s r) [
        | inl gt ↦ let f = ap (λ o. ordering_then o (slice_cmp nat_cmp rs ss)) (nat_cmp_is r s Greater gt) ∙ h in cc
        | inr le ↦ let e : r ≡ s = omega arith in inr (e, ap (λ o. ordering_then o (slice_cmp nat_cmp rs ss)) (nat_cmp_is r s Equal e) ∙ h)
      ]
    ]

-- what lies between two lists with one front has that front too
pub take-between : (p : ℕ) (rs ss ts : List ℕ) → slice_cmp nat_cmp rs ss ≡ Less → slice_cmp nat_cmp ss ts ≡ Less → take p rs ≡ take p ts → take p ss ≡ take p rs
take-between zero rs ss ts a b e = refl
take-between (suc p) [] [] ts a b e = cc
take-between (suc p) [] (s ∷ ss) [] a b e = cc
take-between (suc p) [] (s ∷ ss) (t ∷ ts) a b e = cc
take-between (suc p) (r ∷ rs) [] ts a b e = cc
take-between (suc p) (r ∷ rs) (s ∷ ss) [] a b e = cc
take-between (suc p) (r ∷ rs) (s ∷ ss) (t ∷ ts) a b e =
    let same : r ≡ t = cc in
    let rest : take p rs ≡ take p ts = cc in
    elim (heads r s rs ss a) [
      | inl lt ↦ elim (heads s t ss ts b) [ inl gt ↦ absurd (omega (arith, same)) | inr eq ↦ absurd (omega (arith, same, eq.0)) ]
      | inr eq ↦
          let e1 : r ≡ s = eq.0 in
          let later : slice_cmp nat_cmp ss ts ≡ Less = elim (heads s t ss ts b) [ inl gt ↦ absurd (omega (arith, same)) | inr q ↦ q.1 ] in
          let tail : take p ss ≡ take p rs = take-between p rs ss ts eq.1 later rest in
          cc
    ]

pub prefixes_together : (part : List ℕ) (p i j k : ℕ) → IsPart part → i < j → j < k → k < length part → first_relations p (slice_index part i) ≡ first_relations p (slice_index part k) → first_relations p (slice_index part j) ≡ first_relations p (slice_index part i)
prefixes_together part p i j k ok a b l e =
    take-between p (members (slice_index part i)) (members (slice_index part j)) (members (slice_index part k)) (ok.ascends i j a (omega arith)) (ok.ascends j k b l) e

-- ---- tests

-- no place before has the prefix
pub blocking_new : (part : List ℕ) (x : ℕ) (p : List ℕ) (from n : ℕ) → ((m : ℕ) → m < n → blocking_prefix x (slice_index part (from + m)) ≢ p) → has_blocking_prefix part x p from n ≡ false
unfolding has_blocking_prefix
blocking_new part x p from zero h = refl
blocking_new part x p from (suc n) h =
    rw (blocking_new part x p from n (λ m l. h m (omega arith))) (false_from_ne_true (pointwise nat_eq (blocking_prefix x (slice_index part (from + n))) p) (λ t. h n (omega arith) ((bytes_eq-Decides _ p).0 t)))

-- a place before has it
blocking_old : (part : List ℕ) (x : ℕ) (p : List ℕ) (from n m : ℕ) → m < n → blocking_prefix x (slice_index part (from + m)) ≡ p → has_blocking_prefix part x p from n ≡ true
unfolding has_blocking_prefix
blocking_old part x p from zero m l e = absurd (omega arith)
blocking_old part x p from (suc n) m l e =
    elim (cases_lt m n) [
      | inl lt ↦ rw (blocking_old part x p from n m lt e) refl
      | inr ge ↦
          let k : m ≡ n = omega arith in
          let f : blocking_prefix x (slice_index part (from + n)) ≡ p = ap (λ j. blocking_prefix x (slice_index part (from + j))) (sym k) ∙ e in
          rw (f, (bytes_eq-Decides p p).1 refl) (or_right (has_blocking_prefix part x p from n) true refl)
    ]

pub probed_first : (part : List ℕ) (from x n : ℕ) → ((m : ℕ) → m < n → blocking_prefix x (slice_index part (from + m)) ≢ blocking_prefix x (slice_index part (from + n))) → is_probed part from x n ≡ true
unfolding is_probed
probed_first part from x n h =
    rw (blocking_new part x (blocking_prefix x (slice_index part (from + n))) from n h) (or_right (is_free x (slice_index part (from + n))) true refl)

pub free_or_meets : (s x : ℕ) → Disjoint s x ⊎ Meets s x
free_or_meets s x =
    elim (cases_eq (inter s x) 0) [ inl e ↦ inl ((disjoint_by_inter s x).0 e) | inr ne ↦ inr ((meets_by_inter s x).0 ne) ]

pub free_true : (s x : ℕ) → Disjoint s x → nat_eq (inter s x) 0 ≡ true
free_true s x d = eq-eqb _ _ ((disjoint_by_inter s x).1 d)

pub probed_free : (part : List ℕ) (from x n : ℕ) → Disjoint (slice_index part (from + n)) x → is_probed part from x n ≡ true
unfolding is_probed
probed_free part from x n d = rw (free_true _ x d) refl

probed_not : (part : List ℕ) (from x n m : ℕ) → m < n → Meets (slice_index part (from + n)) x → blocking_prefix x (slice_index part (from + m)) ≡ blocking_prefix x (slice_index part (from + n)) → is_probed part from x n ≡ false
unfolding is_probed
probed_not part from x n m l t e =
    rw ((meets_true _ x).1 t, blocking_old part x (blocking_prefix x (slice_index part (from + n))) from n m l e) refl

pub probed_iff : (part : List ℕ) (from x n : ℕ) → IsTrue (is_probed part from x n) ↔ IsProbed part from x n
probed_iff part from x n = (
  λ t. elim (free_or_meets (slice_index part (from + n)) x) [
    | inl free ↦ inl free
    | inr met ↦ inr (λ m l e. true≢false (sym t ∙ probed_not part from x n m l met e))
  ],
  λ p. elim p [ inl free ↦ probed_free part from x n free | inr first ↦ probed_first part from x n first ],
)

-- ---- how many are probed

pub probes-more : (part : List ℕ) (from x n : ℕ) → is_probed part from x n ≡ true → probes part from x (suc n) ≡ probes part from x n + 1
unfolding probes
probes-more part from x n h = rw h refl

probes-same : (part : List ℕ) (from x n : ℕ) → is_probed part from x n ≡ false → probes part from x (suc n) ≡ probes part from x n
unfolding probes
probes-same part from x n h = rw h (omega arith)

-- the m places after n, all with the blocking prefix of n
pub probes-over : (part : List ℕ) (from x n m : ℕ) → is_probed part from x n ≡ true → ((j : ℕ) → n < j → j ≤ n + m → Meets (slice_index part (from + j)) x × (blocking_prefix x (slice_index part (from + j)) ≡ blocking_prefix x (slice_index part (from + n)))) → probes part from x (suc (n + m)) ≡ probes part from x n + 1
probes-over part from x n zero h k = rw add-zero (probes-more part from x n h)
probes-over part from x n (suc m) h k =
    rw add-suc
    (probes-same part from x (suc (n + m)) (probed_not part from x (suc (n + m)) n (omega arith) (k (suc (n + m)) (omega arith) (omega arith)).0 (sym (k (suc (n + m)) (omega arith) (omega arith)).1))
    ∙ probes-over part from x n m h (λ j a b. k j a (omega arith)))

-- ---- the scan

-- a front that has a relation in x
up_to_has : (x : ℕ) (rs : List ℕ) → HasIn x rs → HasIn x (up_to x rs)
unfolding HasIn up_to
up_to_has x [] h = absurd h
up_to_has x (r ∷ rs) h =
    elim (cases_eq (member x r) 1) [
      | inl e ↦ subst (HasIn x) (sym (up_to_here x r rs e)) (inl e)
      | inr ne ↦
          let rest : HasIn x rs = elim h [ inl is ↦ absurd (ne is) | inr later ↦ later ] in
          subst (HasIn x) (sym (up_to_later x r rs ne)) (inr (up_to_has x rs rest))
    ]

up_to_had : (x : ℕ) (rs : List ℕ) → HasIn x (up_to x rs) → HasIn x rs
unfolding HasIn up_to
up_to_had x [] h = absurd h
up_to_had x (r ∷ rs) h =
    elim (cases_eq (member x r) 1) [
      | inl e ↦ inl e
      | inr ne ↦
          let f : HasIn x (r ∷ up_to x rs) = subst (HasIn x) (up_to_later x r rs ne) h in
          elim f [ inl is ↦ inl is | inr later ↦ inr (up_to_had x rs later) ]
    ]

-- a set with the first relations of a blocked one is blocked in the same way
pub blocking_same : (s t x : ℕ) → HasIn x (members s) → first_relations (length (blocking_prefix x s)) t ≡ first_relations (length (blocking_prefix x s)) s → blocking_prefix x t ≡ blocking_prefix x s
unfolding blocking_prefix
blocking_same s t x h e = up_to_same x (members s) (members t) h e

pub blocking_has : (s t x : ℕ) → HasIn x (members s) → blocking_prefix x t ≡ blocking_prefix x s → HasIn x (members t)
unfolding blocking_prefix
blocking_has s t x h e = up_to_had x (members t) (subst (HasIn x) (sym e) (up_to_has x (members s) h))

pub blocking_first : (s t x : ℕ) → blocking_prefix x t ≡ blocking_prefix x s → first_relations (length (blocking_prefix x s)) t ≡ first_relations (length (blocking_prefix x s)) s
unfolding blocking_prefix
blocking_first s t x e =
    ap (λ n. take n (members t)) (ap length (sym e)) ∙ up_to-take x (members t) ∙ e ∙ sym (up_to-take x (members s))

-- what a scan that began at from knows before it looks at the place from + n
pub record IsScanned (part : List ℕ) (from x n count : ℕ) : Type 0 where
  pub within : from + n ≤ length part
  pub blocked : (m : ℕ) → m < n → HasIn x (members (slice_index part (from + m)))
  pub fresh : from + n < length part → (m : ℕ) → m < n → blocking_prefix x (slice_index part (from + m)) ≢ blocking_prefix x (slice_index part (from + n))
  pub counted : count ≡ probes part from x n

pub scan_first : (part : List ℕ) (from x : ℕ) → from ≤ length part → IsScanned part from x 0 0
unfolding probes
scan_first part from x l = record {
  within = omega arith;
  blocked = λ m b. absurd (omega arith);
  fresh = λ b m k. absurd (omega arith);
  counted = refl;
}

module _ (part : List ℕ) (from x n count d : ℕ) (ok : IsPart part) (scan : IsScanned part from x n count) (here : from + n < length part) (taken : HasIn x (members (slice_index part (from + n)))) (next : IsAfter part (from + n) (length (blocking_prefix x (slice_index part (from + n)))) (from + suc (n + d))) where
  -- the entries that are skipped are blocked as the one that was looked at
  skipped_same : (m : ℕ) → n < m → m ≤ n + d → blocking_prefix x (slice_index part (from + m)) ≡ blocking_prefix x (slice_index part (from + n))
  skipped_same m a b = blocking_same _ _ x taken (next.same (from + m) (omega arith) (omega arith))

  skipped_blocked : (m : ℕ) → n < m → m ≤ n + d → HasIn x (members (slice_index part (from + m)))
  skipped_blocked m a b = blocking_has _ _ x taken (skipped_same m a b)

  blocked_all : (m : ℕ) → m < suc (n + d) → HasIn x (members (slice_index part (from + m)))
  blocked_all m l =
      elim (cases_lt m n) [
        | inl lt ↦ scan.blocked m lt
        | inr ge ↦ elim (cases_eq m n) [
          | inl e ↦ subst (λ k. HasIn x (members (slice_index part (from + k)))) (sym e) taken
          | inr ne ↦ skipped_blocked m (omega arith) (omega arith)
        ]
      ]

  -- an earlier one with the blocking prefix of the next place would have it at the place between too
  fresh_before : from + suc (n + d) < length part → (m : ℕ) → m < n → blocking_prefix x (slice_index part (from + m)) ≢ blocking_prefix x (slice_index part (from + suc (n + d)))
  fresh_before l m lt e =
      let j : ℕ = slice_index part (from + m) in
      let v : ℕ = slice_index part (from + n) in
      let w : ℕ = slice_index part (from + suc (n + d)) in
      let ends : first_relations (length (blocking_prefix x j)) j ≡ first_relations (length (blocking_prefix x j)) w = sym (blocking_first j w x (sym e)) in
      let between : first_relations (length (blocking_prefix x j)) v ≡ first_relations (length (blocking_prefix x j)) j =
      take-between (length (blocking_prefix x j)) (members j) (members v) (members w) (ok.ascends (from + m) (from + n) (omega arith) here) (ok.ascends (from + n) (from + suc (n + d)) (omega arith) l) ends in
      scan.fresh here m lt (sym (blocking_same j v x (scan.blocked m lt) between))

  fresh_here : from + suc (n + d) < length part → (m : ℕ) → n ≤ m → m < suc (n + d) → blocking_prefix x (slice_index part (from + m)) ≢ blocking_prefix x (slice_index part (from + suc (n + d)))
  fresh_here l m ge lt e =
      let v : ℕ = slice_index part (from + n) in
      let w : ℕ = slice_index part (from + suc (n + d)) in
      let same : blocking_prefix x (slice_index part (from + m)) ≡ blocking_prefix x v = elim (cases_eq m n) [
        | inl q ↦ ap (λ k. blocking_prefix x (slice_index part (from + k))) q
        | inr ne ↦ skipped_same m (omega arith) (omega arith)
      ] in
      next.other l (blocking_first v w x (sym e ∙ same))

  pub scan_more : IsScanned part from x (suc (n + d)) (count + 1)
  scan_more = record {
    within = next.within;
    blocked = blocked_all;
    fresh = λ l m lt. elim (cases_lt m n) [ inl b ↦ fresh_before l m b | inr ge ↦ fresh_here l m ge lt ];
    counted =
        ap (λ k. k + 1) scan.counted
        ∙ sym (probes-over part from x n d (probed_first part from x n (scan.fresh here)) (λ j a b. (hasin_meets _ x (skipped_blocked j a b), skipped_same j a b)));
  }

-- ---- the scan in the code's words

pub record IsScan (part : List ℕ) (from x place count : ℕ) : Type 0 where
  pub offset : ℕ
  pub place_is : place ≡ from + offset
  pub scanned : IsScanned part from x offset count

pub scan_init : (part : List ℕ) (from x : ℕ) → from ≤ length part → IsScan part from x from 0
scan_init part from x l = record { offset = 0; place_is = omega arith; scanned = scan_first part from x l }

pub probes_few : (part : List ℕ) (from x n : ℕ) → probes part from x n ≤ n
unfolding probes
probes_few part from x zero = omega arith
probes_few part from x (suc n) =
    elim (is_probed part from x n) as (λ b. probes part from x n + (if b then 1 else 0) ≤ suc n) [
      | true ↦ omega (arith, probes_few part from x n)
      | false ↦ omega (arith, probes_few part from x n)
    ]

pub scan_few : (part : List ℕ) (from x place count : ℕ) → IsScan part from x place count → count ≤ place
scan_few part from x place count s =
    omega (arith, s.place_is, s.scanned.counted, probes_few part from x s.offset)

pub scan_on : (part : List ℕ) (from x place count entry b next : ℕ) → IsPart part → IsScan part from x place count → place < length part → entry ≡ slice_index part place → HasIn x (members entry) → b ≡ length (blocking_prefix x entry) → IsAfter part place b next → IsScan part from x next (count + 1)
scan_on part from x place count entry b next ok s here eis h bis a =
    let n : ℕ = s.offset in
    let d : ℕ = next - (from + n) - 1 in
    let e : place ≡ from + n = s.place_is in
    let f : next ≡ from + suc (n + d) = omega (arith, a.above, e) in
    let entry_is : entry ≡ slice_index part (from + n) = eis ∙ ap (slice_index part) e in
    let taken : HasIn x (members (slice_index part (from + n))) = subst (λ k. HasIn x (members k)) entry_is h in
    let a1 : IsAfter part (from + n) b next = subst (λ k. IsAfter part k b next) e a in
    let a2 : IsAfter part (from + n) (length (blocking_prefix x (slice_index part (from + n)))) next = subst (λ k. IsAfter part (from + n) k next) (bis ∙ ap (λ k. length (blocking_prefix x k)) entry_is) a1 in
    let a3 : IsAfter part (from + n) (length (blocking_prefix x (slice_index part (from + n)))) (from + suc (n + d)) = subst (IsAfter part (from + n) (length (blocking_prefix x (slice_index part (from + n))))) f a2 in
    record {
      offset = suc (n + d);
      place_is = f;
      scanned = scan_more part from x n count d ok s.scanned (omega (arith, e)) taken a3;
    }

pub scan_none : (part : List ℕ) (from x place count : ℕ) → IsScan part from x place count → NoneFree part x from place
scan_none part from x place count s j a b =
    let e : from + (j - from) ≡ j = omega arith in
    hasin_meets (slice_index part j) x (subst (λ k. HasIn x (members (slice_index part k))) e (s.scanned.blocked (j - from) (omega (arith, s.place_is))))

pub scan_found : (part : List ℕ) (from x place count entry : ℕ) → IsScan part from x place count → place < length part → entry ≡ slice_index part place → Disjoint entry x → IsFirstFree part x from place entry × (count + 1 ≡ probes part from x (place + 1 - from))
scan_found part from x place count entry s here eis free =
    let n : ℕ = s.offset in
    let e : place ≡ from + n = s.place_is in
    let k : place + 1 - from ≡ suc n = omega (arith, e) in
    let none : Disjoint (slice_index part (from + n)) x = subst (λ (s : ℕ). Disjoint s x) (eis ∙ ap (slice_index part) e) free in (
      record { from_on = omega (arith, e); within = here; entry_is = eis; free = free; first = scan_none part from x place count s },
      ap (λ j. j + 1) s.scanned.counted ∙ sym (probes-more part from x n (probed_free part from x n none)) ∙ ap (probes part from x) (sym k),
    )

pub scan_end : (part : List ℕ) (from x place count : ℕ) → IsScan part from x place count → length part ≤ place → NoneFree part x from (length part) × (count ≡ probes part from x (length part - from))
scan_end part from x place count s ge =
    let e : place ≡ length part = omega (arith, s.place_is, s.scanned.within) in
    let k : s.offset ≡ length part - from = omega (arith, s.place_is) in
    (subst (NoneFree part x from) e (scan_none part from x place count s), s.scanned.counted ∙ ap (probes part from x) k)

-- ---- the columns

pub apart_in_part : (part : List ℕ) (i : ℕ) → IsPart part → i + 1 < length part → slice_index part i ≢ slice_index part (i + 1)
apart_in_part part i ok l e =
    let less : list_order (slice_index part i) (slice_index part (i + 1)) ≡ Less = ok.ascends i (i + 1) (omega arith) l in
    let same : Equal ≡ list_order (slice_index part i) (slice_index part (i + 1)) = order_same (slice_index part i) ∙ ap (list_order (slice_index part i)) e in
    cc

pub not_meets : (s x : ℕ) → (Meets s x → ⊥) → Disjoint s x
not_meets s x h r a b = h (r, a, b)

pub columns_more : (part : List ℕ) (columns : List Column) (v : Column) (n : ℕ) → length columns ≡ n → ((p : ℕ) (d : Column) → p < n → IsColumn part (p + 1) (get_or columns p d)) → IsColumn part (n + 1) v → (p : ℕ) (d : Column) → p < n + 1 → IsColumn part (p + 1) (get_or (columns ++ v ∷ []) p d)
columns_more part columns v n e all new p d l =
    elim (cases_lt p n) [
      | inl lt ↦ subst (λ (c : Column). IsColumn part (p + 1) c) (sym (get_or-append columns (v ∷ []) d p (omega arith))) (all p d lt)
      | inr ge ↦
          let k : p ≡ n = omega arith in
          let at_end : get_or (columns ++ v ∷ []) p d ≡ v = get_or_push columns v d p (omega arith) in
          subst (λ (c : Column). IsColumn part (p + 1) c) (sym at_end) (subst (λ j. IsColumn part (j + 1) v) (sym k) new)
    ]
