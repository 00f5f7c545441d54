-- Subsets in the order of their numbers, and the least member.
use Rattle.std.proofs.Common.{◌≡◌, ◌≢◌, ◌↔◌, ℕ, zero, suc, ◌+◌, ◌-◌, ◌<◌, ◌≤◌, inl, inr, arith, refl, sym, ◌∙◌, ap, subst, Bool, true, false, List, [], ◌∷◌}
use Rattle.std.specs.List.{AllPairs, Contains, filter, range_with_len}
use Rattle.std.proofs.lemmas.Bool.{cases_eq, cases_lt, cases_Bool, cond-true, cond-false}
use Rattle.std.proofs.lemmas.Nat.{pow_pos}
use Rattle.std.proofs.lemmas.List.Kept.{AllPairs-filter}
use Rattle.dpe_base.specs.declared.TheConstants.{N_MAX}
use Rattle.dpe_base.specs.Sets.{Within, IsLeast, IsNextSubset, full, is_within, least}
use Rattle.dpe_base.proofs.SetLaws.{member-above, is_within_true, least_of_set, full_has, full_limit}
use Rattle.dpe_base.proofs.NextSubset.{within_le}
use Rattle.dpe_base.proofs.SizeLaws.{within_span}
use Rattle.pair_stream.specs.Subsets.{subsets_after, descending}
use Rattle.dpe_base.proofs.Members.{contains_head, contains_tail, contains_none, contains_cases}
use Rattle.pair_stream.proofs.Lists.{contains_filter, contains_from_filter, passes_from_filter, contains_range, contains_from_range, pairs_nil, pairs_cons, pairs_range}

-- ---- subsets in ascending order

pub subsets_has : (s whole t : ℕ) → Contains (subsets_after s whole) t ↔ ((s < t) × Within t whole)
unfolding subsets_after
subsets_has s whole t = (
  λ c. (
    omega (arith, (contains_from_range (suc s) (whole - s) t (contains_from_filter (λ x. is_within x whole) (range_with_len (suc s) (whole - s)) t c)).0),
    (is_within_true t whole).0 (passes_from_filter (λ x. is_within x whole) (range_with_len (suc s) (whole - s)) t c),
  ),
  λ h.
      contains_filter (λ x. is_within x whole) (range_with_len (suc s) (whole - s)) t
      (contains_range (suc s) (whole - s) t (omega (arith, h.0)) (omega (arith, h.0, within_le t whole h.1)))
      ((is_within_true t whole).1 h.1),
)

pub subsets_ascend : (s whole : ℕ) → AllPairs (λ x y. x < y) (subsets_after s whole)
unfolding subsets_after
subsets_ascend s whole = AllPairs-filter (λ x y. x < y) (λ x. is_within x whole) (range_with_len (suc s) (whole - s)) (pairs_range (suc s) (whole - s))

-- numbers that all fail one of two tests are left out
filter_skip : (q p : ℕ → Bool) (d a m : ℕ) → ((k : ℕ) → a ≤ k → k < a + d → p k ≡ true → q k ≡ false) → filter q (filter p (range_with_len a (d + m))) ≡ filter q (filter p (range_with_len (a + d) m))
filter_skip q p zero a m h = ap (λ (k : ℕ). filter q (filter p (range_with_len a k))) (omega arith) ∙ ap (λ (k : ℕ). filter q (filter p (range_with_len k m))) (omega arith)
filter_skip q p (suc d) a m h =
    ap (λ (k : ℕ). filter q (filter p (range_with_len a k))) more
    ∙ first
    ∙ filter_skip q p d (a + 1) m (λ k l b t. h k (omega arith) (omega arith) t)
    ∙ ap (λ (k : ℕ). filter q (filter p (range_with_len k m))) same
  where
    rest : List ℕ
    rest = filter p (range_with_len (a + 1) (d + m))

    more : suc d + m ≡ suc (d + m)
    more = omega arith

    same : a + 1 + d ≡ a + suc d
    same = omega arith

    first : filter q (filter p (a ∷ range_with_len (a + 1) (d + m))) ≡ filter q (filter p (range_with_len (a + 1) (d + m)))
    first =
        elim (cases_Bool (p a)) [
          | inl t ↦ ap (filter q) (cond-true (p a) (a ∷ rest) rest t) ∙ cond-false (q a) (a ∷ filter q rest) (filter q rest) (h a (omega arith) (omega arith) t)
          | inr f ↦ ap (filter q) (cond-false (p a) (a ∷ rest) rest f)
        ]

-- the subsets up to t that the test refuses are left out
pub subsets_skip : (q : ℕ → Bool) (a s t : ℕ) → Within t s → a < t → ((u : ℕ) → Within u s → a < u → u < t → q u ≡ false) → filter q (subsets_after a s) ≡ filter q (t ∷ subsets_after t s)
unfolding subsets_after
subsets_skip q a s t w l h =
    ap (λ (k : ℕ). filter q (filter (λ x. is_within x s) (range_with_len (suc a) k))) len
    ∙ filter_skip q (λ x. is_within x s) (t - suc a) (suc a) (suc (s - t)) (λ k low high e. h k ((is_within_true k s).0 e) (omega arith) (omega (arith, l)))
    ∙ ap (λ (k : ℕ). filter q (filter (λ x. is_within x s) (range_with_len k (suc (s - t))))) start
    ∙ ap (filter q) (cond-true (is_within t s) (t ∷ filter (λ x. is_within x s) (range_with_len (t + 1) (s - t))) (filter (λ x. is_within x s) (range_with_len (t + 1) (s - t))) ((is_within_true t s).1 w))
    ∙ ap (λ (k : ℕ). filter q (t ∷ filter (λ x. is_within x s) (range_with_len k (s - t)))) step
  where
    below : t ≤ s
    below = within_le t s w

    len : s - a ≡ t - suc a + suc (s - t)
    len = omega (arith, l, below)

    start : suc a + (t - suc a) ≡ t
    start = omega (arith, l)

    step : t + 1 ≡ suc t
    step = omega arith

all_kept : (xs : List ℕ) → filter (λ x. true) xs ≡ xs
all_kept [] = refl
all_kept (x ∷ xs) = ap (λ ys. x ∷ ys) (all_kept xs)

-- the next subset is the first of the list
pub subsets_next : (a s t : ℕ) → IsNextSubset a s t → subsets_after a s ≡ t ∷ subsets_after t s
subsets_next a s t n =
    sym (all_kept (subsets_after a s)) ∙ subsets_skip (λ x. true) a s t n.within n.greater (λ u w l m. absurd (omega (arith, n.next u w l)))
    ∙ all_kept (t ∷ subsets_after t s)

pub subsets_last : (s : ℕ) → subsets_after s s ≡ []
unfolding subsets_after
subsets_last s = ap (λ (k : ℕ). filter (λ x. is_within x s) (range_with_len (suc s) k)) none
  where
    none : s - s ≡ 0
    none = omega arith

-- ---- descending numbers

pub descending_has : (n i : ℕ) → Contains (descending n) i ↔ (i < n)
unfolding descending
descending_has zero i = (λ c. absurd (contains_none i c), λ l. absurd (omega arith))
descending_has (suc n) i = (
  λ c. elim (contains_cases n (descending n) i c) [ inl e ↦ omega arith | inr d ↦ omega (arith, (descending_has n i).0 d) ],
  λ l. elim (cases_eq n i) [
    | inl e ↦ subst (Contains (n ∷ descending n)) e (contains_head n (descending n))
    | inr ne ↦ contains_tail n (descending n) i ((descending_has n i).1 (omega arith))
  ],
)

pub descending_order : (n : ℕ) → AllPairs (λ x y. y < x) (descending n)
unfolding descending
descending_order zero = pairs_nil (λ x y. y < x)
descending_order (suc n) = pairs_cons (λ x y. y < x) n (descending n) (λ y c. (descending_has n y).0 c) (descending_order n)

-- ---- the least member

pub least_is : (s n : ℕ) → Within s (full n) → n ≤ N_MAX → s ≢ 0 → IsLeast s (least s)
least_is s n w l ne = least_of_set s (omega (arith, within_span s n w l)) ne

-- a number up to the greatest is a set of relations below n
pub within_full : (s n : ℕ) → s ≤ full n → Within s (full n)
unfolding full
within_full s n l r h =
    elim (cases_lt r n) [
      | inl b ↦ full_has n r b
      | inr b ↦ absurd (omega (arith, member-above s n r (omega (arith, pow_pos n)) b, h))
    ]

-- ---- numbers that are not 0

pub positive : (a : ℕ) → a ≢ 0 → 0 < a
positive a ne = elim (cases_eq a 0) [ inl e ↦ absurd (ne e) | inr x ↦ omega arith ]

pub within_most : (s n : ℕ) → Within s (full n) → n ≤ N_MAX → Within s (full N_MAX)
within_most s n w l r h = full_has N_MAX r (omega (arith, full_limit n r (w r h)))
