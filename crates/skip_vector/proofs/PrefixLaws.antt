-- Prefixes of the ascending list of a set, by the digits of its number.
use Rattle.std.proofs.Common.{◌≡◌, ◌≢◌, ℕ, zero, suc, ◌+◌, ◌-◌, ◌*◌, ◌%◌, ◌^◌, ◌<◌, ◌≤◌, List, [], ◌∷◌, ◌++◌, length, take, refl, sym, ◌∙◌, ap, subst, arith, inl, inr, ◌⊎◌, append_assoc, add-one, ◌↔◌}
use Rattle.std.specs.Int.RustNames.{bit_and}
use Rattle.std.specs.Int.Count.{count_trailing_zeros}
use Rattle.std.proofs.lemmas.Bool.{cases_eq, cases_lt, ne_eqb}
use Rattle.std.proofs.lemmas.List.{take-append-le}
use Rattle.std.proofs.lemmas.Nat.{one_shl}
use Rattle.dpe_base.specs.Sets.{member, Has, Meets, IsLeast, inter, full, size, alone, members, members_below}
use Rattle.dpe_base.proofs.SetLaws.{member-bound, member-inter, least_by_zeros, inter_lt}
use Rattle.dpe_base.proofs.SizeLaws.{counted, size_counts, meets_by_inter}
use Rattle.dpe_base.proofs.ListOrder.{alone-member, alone-other, split_at, between_first, between, between_cases, FirstIn, from_k, first_of, first_digit, same_below, same_by_xor}
use Rattle.skip_vector.specs.Skips.{first_relations, up_to, blocking_prefix}

-- some relation of the list is in x
unfoldable pub HasIn : ℕ → List ℕ → Type 0
HasIn x [] = ⊥
HasIn x (r ∷ rs) = (member x r ≡ 1) ⊎ HasIn x rs

-- what `len_below` computes
pub below_by_mask : (s end : ℕ) → end ≤ 32 → size (bit_and s (1 * 2 ^ end % 18446744073709551616 - 1)) ≡ size (inter s (full end))
unfolding inter full
below_by_mask s end l = rw (one_shl end 64 (omega arith)) refl

pub up_to_here : (x r : ℕ) (rs : List ℕ) → Has x r → up_to x (r ∷ rs) ≡ r ∷ []
unfolding up_to
up_to_here x r rs e = rw e refl

pub up_to_later : (x r : ℕ) (rs : List ℕ) → member x r ≢ 1 → up_to x (r ∷ rs) ≡ r ∷ up_to x rs
unfolding up_to
up_to_later x r rs ne = rw (ne_eqb (member x r) 1 ne) refl

-- two lists with one front have the same first elements as far as that goes
take_same : (a r s : List ℕ) (p : ℕ) → p ≤ length a → take p (a ++ r) ≡ take p (a ++ s)
take_same a r s p l = rw (take-append-le, take-append-le) refl

take_differ : (a : List ℕ) (k : ℕ) (r s : List ℕ) (p : ℕ) → length a < p → ((s ≡ []) ⊎ ((x : ℕ) × (xs : List ℕ) × (k < x) × (s ≡ x ∷ xs))) → take p (a ++ (k ∷ r)) ≢ take p (a ++ s)
take_differ a k r s zero l h e = absurd (omega arith)
take_differ [] k r s (suc p) l h e =
    elim h [
      | inl none ↦ let f = rw none at e in cc
      | inr first ↦ let f = rw first.3 at e in let g : k ≡ first.0 = cc in absurd (omega (arith, first.2))
    ]
take_differ (b ∷ a) k r s (suc p) l h e =
    let f : take p (a ++ (k ∷ r)) ≡ take p (a ++ s) = cc in
    take_differ a k r s p (omega arith) h f

-- two sets that first differ at k have the same first relations up to there
first_until : (a b k p : ℕ) → k < 32 → FirstIn a b k → (p ≤ size (inter a (full k))) ↔ (first_relations p a ≡ first_relations p b)
first_until a b k p l f =
    let n : k + suc (31 - k) ≡ 32 = omega arith in
    let m : (members a ≡ members_below k a ++ (k ∷ between (suc k) (31 - k) a)) × (members b ≡ members_below k a ++ between (suc k) (31 - k) b) = from_k a b k (31 - k) n f in
    let len : length (members_below k a) ≡ size (inter a (full k)) = counted k a in
    let rest : (between (suc k) (31 - k) b ≡ []) ⊎ ((x : ℕ) × (xs : List ℕ) × (k < x) × (between (suc k) (31 - k) b ≡ x ∷ xs)) = elim (between_cases (31 - k) (suc k) b) [
      | inl none ↦ inl none.0
      | inr first ↦ inr (first.0, first.1, omega (arith, first.2), first.4)
    ] in (
      λ le. rw (m.0, m.1) (take_same (members_below k a) _ _ p (omega arith)),
      λ e. elim (cases_lt (size (inter a (full k))) p) [
        | inl lt ↦ absurd (take_differ (members_below k a) k _ _ p (omega arith) rest (rw (m.0, m.1) at e))
        | inr ge ↦ ge
      ],
    )

-- the same from the other side
first_until_back : (a b k p : ℕ) → k < 32 → FirstIn b a k → (p ≤ size (inter a (full k))) ↔ (first_relations p a ≡ first_relations p b)
first_until_back a b k p l f =
    let e : size (inter a (full k)) ≡ size (inter b (full k)) = sym (counted k a) ∙ ap length (sym (same_below k b a f.below)) ∙ counted k b in
    let h : (p ≤ size (inter b (full k))) ↔ (first_relations p b ≡ first_relations p a) = first_until b a k p l f in
    (λ le. sym (h.0 (omega arith)), λ q. omega (arith, h.1 (sym q)))

-- what `same_first` computes
pub first_by_xor : (a b p : ℕ) → a < 2 ^ 32 → b < 2 ^ 32 → a ≢ b → (p ≤ size (inter a (full (first_digit a b)))) ↔ (first_relations p a ≡ first_relations p b)
first_by_xor a b p la lb ne =
    let k : ℕ = first_digit a b in
    let f : (k < 32) × ((r : ℕ) → r < k → member a r ≡ member b r) × (member a k + member b k ≡ 1) = first_of a b la lb (λ e. ne (same_by_xor a b e)) in
    elim (cases_eq (member a k) 1) [
      | inl is ↦ first_until a b k p f.0 (record { below = f.1; has = is; other = omega (arith, f.2) })
      | inr other ↦ first_until_back a b k p f.0 (record { below = λ r l. sym (f.1 r l); has = omega (arith, f.2, member-bound a k); other = omega (arith, f.2, member-bound a k) })
    ]

-- up to the first relation in x: the ones before it are kept
up_to_front : (k s x : ℕ) (l : List ℕ) → ((j : ℕ) → j < k → Has s j → member x j ≢ 1) → up_to x (members_below k s ++ l) ≡ members_below k s ++ up_to x l
unfolding members_below up_to
up_to_front zero s x l h = refl
up_to_front (suc k) s x l h =
    elim (cases_eq (member s k) 1) [
      | inl is ↦
          rw (alone-member s k is)
          (ap (up_to x) (append_assoc (members_below k s) (k ∷ []) l)
          ∙ up_to_front k s x (k ∷ l) (λ j lt. h j (omega arith))
          ∙ ap (λ r. members_below k s ++ r) (up_to_later x k l (h k (omega arith) is))
          ∙ sym (append_assoc (members_below k s) (k ∷ []) (up_to x l)))
      | inr other ↦
          rw (alone-other s k (omega (arith, member-bound s k)))
          (ap (up_to x) (append_assoc (members_below k s) [] l)
          ∙ up_to_front k s x l (λ j lt. h j (omega arith))
          ∙ sym (append_assoc (members_below k s) [] (up_to x l)))
    ]

-- the list of a set that has k, cut there
members_cut : (s k : ℕ) → k < 32 → Has s k → members s ≡ members_below k s ++ (k ∷ between (suc k) (31 - k) s)
members_cut s k l h =
    let n : k + suc (31 - k) ≡ 32 = omega arith in
    ap (λ w. members_below w s) (sym n) ∙ split_at k (suc (31 - k)) s ∙ ap (λ r. members_below k s ++ r) (between_first k (31 - k) s ∙ ap (λ r. r ++ between (suc k) (31 - k) s) (alone-member s k h))

-- the blocking prefix, by the least relation in both
pub blocking_is : (s x : ℕ) → s < 2 ^ 32 → inter s x ≢ 0 → (count_trailing_zeros 32 (inter s x) < 32) × (blocking_prefix x s ≡ members_below (count_trailing_zeros 32 (inter s x) + 1) s)
unfolding blocking_prefix members_below
blocking_is s x l ne =
    let k : ℕ = count_trailing_zeros 32 (inter s x) in
    let z : (k < 32) × IsLeast (inter s x) k = least_by_zeros (inter s x) (inter_lt s x (2 ^ 32) l) ne in
    let is : member s k ≡ 1 = omega (arith, z.1.0, member-inter s x k, member-bound s k, member-bound x k) in
    let ix : member x k ≡ 1 = omega (arith, z.1.0, member-inter s x k, member-bound s k, member-bound x k) in
    let clean : (j : ℕ) → j < k → Has s j → member x j ≢ 1 = λ j lt h e. absurd (omega (arith, z.1.1 j (omega (arith, member-inter s x j)))) in
    let step : members_below (k + 1) s ≡ members_below k s ++ (k ∷ []) = rw (add-one, alone-member s k is) refl in (
      z.0,
      ap (up_to x) (members_cut s k z.0 is) ∙ up_to_front k s x _ clean ∙ ap (λ r. members_below k s ++ r) (up_to_here x k _ ix) ∙ sym step,
    )

-- what `blocking_len` computes
pub blocking-length : (s x : ℕ) → s < 2 ^ 32 → inter s x ≢ 0 → length (blocking_prefix x s) ≡ size (inter s (full (count_trailing_zeros 32 (inter s x) + 1)))
blocking-length s x l ne = ap length (blocking_is s x l ne).1 ∙ counted (count_trailing_zeros 32 (inter s x) + 1) s

-- ---- a set that meets x has a relation of its list in x, and the other way round

hasin-append : (x : ℕ) (a b : List ℕ) → HasIn x (a ++ b) → HasIn x a ⊎ HasIn x b
unfolding HasIn
hasin-append x [] b h = inr h
hasin-append x (r ∷ a) b h = elim h [
  | inl e ↦ inl (inl e)
  | inr k ↦ elim (hasin-append x a b k) [ inl p ↦ inl (inr p) | inr q ↦ inr q ]
]

hasin_later : (x : ℕ) (a b : List ℕ) → HasIn x b → HasIn x (a ++ b)
unfolding HasIn
hasin_later x [] b h = h
hasin_later x (r ∷ a) b h = inr (hasin_later x a b h)

pub hasin_from : (s x : ℕ) → s < 2 ^ 32 → Meets s x → HasIn x (members s)
unfolding HasIn
hasin_from s x l m =
    let ne : inter s x ≢ 0 = (meets_by_inter s x).1 m in
    let k : ℕ = count_trailing_zeros 32 (inter s x) in
    let z : (k < 32) × IsLeast (inter s x) k = least_by_zeros (inter s x) (inter_lt s x (2 ^ 32) l) ne in
    let is : member s k ≡ 1 = omega (arith, z.1.0, member-inter s x k, member-bound s k, member-bound x k) in
    let ix : member x k ≡ 1 = omega (arith, z.1.0, member-inter s x k, member-bound s k, member-bound x k) in
    subst (HasIn x) (sym (members_cut s k z.0 is)) (hasin_later x (members_below k s) (k ∷ between (suc k) (31 - k) s) (inl ix))

hasin_below : (k s x : ℕ) → HasIn x (members_below k s) → Meets s x
unfolding HasIn members_below
hasin_below zero s x h = absurd h
hasin_below (suc k) s x h =
    elim (hasin-append x (members_below k s) (alone s k) h) [
      | inl p ↦ hasin_below k s x p
      | inr q ↦ elim (cases_eq (member s k) 1) [
        | inl is ↦ let f = rw (alone-member s k is) at q in elim f [ inl e ↦ (k, is, e) | inr none ↦ absurd none ]
        | inr other ↦ let f = rw (alone-other s k (omega (arith, member-bound s k))) at q in absurd f
      ]
    ]

pub hasin_meets : (s x : ℕ) → HasIn x (members s) → Meets s x
hasin_meets s x h = hasin_below 32 s x h

-- how long a blocking prefix is

up_to_some : (x : ℕ) (rs : List ℕ) → HasIn x rs → 1 ≤ length (up_to x rs)
unfolding HasIn up_to
up_to_some x [] h = absurd h
up_to_some x (r ∷ rs) h =
    elim (cases_eq (member x r) 1) [
      | inl e ↦ rw e (omega arith)
      | inr ne ↦ rw (ne_eqb (member x r) 1 ne) (omega arith)
    ]

up_to_few : (x : ℕ) (rs : List ℕ) → length (up_to x rs) ≤ length rs
unfolding up_to
up_to_few x [] = omega arith
up_to_few x (r ∷ rs) =
    elim (cases_eq (member x r) 1) [
      | inl e ↦ rw e (omega arith)
      | inr ne ↦ rw (ne_eqb (member x r) 1 ne) (omega (arith, up_to_few x rs))
    ]

pub blocking_some : (s x : ℕ) → s < 2 ^ 32 → Meets s x → 1 ≤ length (blocking_prefix x s)
unfolding blocking_prefix
blocking_some s x l m = up_to_some x (members s) (hasin_from s x l m)

pub blocking_few : (s x : ℕ) → s < 2 ^ 32 → length (blocking_prefix x s) ≤ size s
unfolding blocking_prefix
blocking_few s x l = omega (arith, up_to_few x (members s), size_counts s l)
