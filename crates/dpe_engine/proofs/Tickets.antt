-- How many tickets of a list are past an end, and how often one stands in it.
use Rattle.std.proofs.Common.{◌≡◌, ◌≢◌, ℕ, zero, suc, ◌+◌, ◌*◌, ◌<◌, ◌≤◌, ◌==◌, suc-mul, nat_le, nat_lt, min, cond, List, [], ◌∷◌, ◌++◌, length, get_or, sum_by, count_by, sym, refl, ◌∙◌, arith}
use mathlib.Core.Logic.{dite}
use native.Mathlib.Decide.{ℕ_discrete}
use Rattle.std.proofs.lemmas.Bool.Decides.{nat_tests}
use Rattle.std.proofs.lemmas.List.Sums.{sum_by-cons, sum_by-append}
use Rattle.memo_table.specs.Views.{times, once_below, EachOnceBelow}
use Rattle.dpe_engine.specs.Working.{past}

pub past-append : (end : ℕ) (xs ys : List ℕ) → past end (xs ++ ys) ≡ past end xs + past end ys
past-append end xs ys = sum_by-append (λ x. cond (nat_le end x) 1 0) xs ys

pub times_other : (x n : ℕ) → x ≢ n → times x (n ∷ []) ≡ 0
times_other x n ne = grind (arith, nat_tests)

pub past_one : (end n : ℕ) → end ≤ n → past end (n ∷ []) ≡ 1
past_one end n h = grind (arith, nat_tests)

pub past_none : (end n : ℕ) → n < end → past end (n ∷ []) ≡ 0
past_none end n h = grind (arith, nat_tests)

-- ---- the numbers below n, each once

below_and_past : (end : ℕ) (xs : List ℕ) → count_by (λ x. nat_lt x end) xs + past end xs ≡ length xs
below_and_past end [] = refl
below_and_past end (x ∷ xs) =
    let r = below_and_past end xs in
    let a = sum_by-cons (λ y. cond (nat_lt y end) 1 0) x xs in
    let b = sum_by-cons (λ y. cond (nat_le end y) 1 0) x xs in
    let h = one x end in omega arith
  where
    one : (x end : ℕ) → cond (nat_lt x end) 1 0 + cond (nat_le end x) 1 0 ≡ 1
    one x end = grind (arith, nat_tests)

none_below : (xs : List ℕ) → count_by (λ x. nat_lt x 0) xs ≡ 0
none_below [] = refl
none_below (x ∷ xs) = let r = none_below xs in let a = sum_by-cons (λ y. cond (nat_lt y 0) 1 0) x xs in let h = one x in omega arith
  where
    one : (x : ℕ) → cond (nat_lt x 0) 1 0 + 0 ≡ 0
    one x = grind (arith, nat_tests)

below_next : (end : ℕ) (xs : List ℕ) → count_by (λ x. nat_lt x (suc end)) xs ≡ count_by (λ x. nat_lt x end) xs + times end xs
below_next end [] = refl
below_next end (x ∷ xs) =
    let r = below_next end xs in
    let a = sum_by-cons (λ y. cond (nat_lt y (suc end)) 1 0) x xs in
    let b = sum_by-cons (λ y. cond (nat_lt y end) 1 0) x xs in
    let c = sum_by-cons (λ y. cond (y == end) 1 0) x xs in
    let h = one x end in omega arith
  where
    one : (x end : ℕ) → cond (nat_lt x (suc end)) 1 0 ≡ cond (nat_lt x end) 1 0 + cond (x == end) 1 0
    one x end = grind (arith, nat_tests)

below_is : (n : ℕ) (xs : List ℕ) → EachOnceBelow n xs → (end : ℕ) → count_by (λ x. nat_lt x end) xs ≡ min end n
below_is n xs a zero = none_below xs ∙ sym (omega arith)
below_is n xs a (suc end) = let r = below_is n xs a end in let b = below_next end xs in let t = a.once end in let h = one end n in omega arith
  where
    one : (end n : ℕ) → min end n + once_below end n ≡ min (suc end) n
    one end n = grind (arith, nat_tests)

-- of the numbers below n, these many are past the end
pub past_is : (n : ℕ) (xs : List ℕ) → EachOnceBelow n xs → (end : ℕ) → min end n + past end xs ≡ n
past_is n xs a end = let b = below_is n xs a end in let s = below_and_past end xs in let c = a.count in omega arith

pub once_in : (x n : ℕ) → x < n → once_below x n ≡ 1
once_in x n h = grind (arith, nat_tests)

pub once_out : (x n : ℕ) → n ≤ x → once_below x n ≡ 0
once_out x n h = grind (arith, nat_tests)

-- ---- sums

pub sum_fixed : {A : Type 0} (f : A → ℕ) (c : ℕ) (xs : List A) → ((k : ℕ) (d : A) → k < length xs → f (get_or xs k d) ≡ c) → sum_by f xs ≡ length xs * c
sum_fixed f c [] each = omega arith
sum_fixed f c (x ∷ xs) each =
    let r = sum_fixed f c xs (λ k d h. each (suc k) d (omega arith)) in
    let s = sum_by-cons f x xs in let h = each 0 x (omega arith) in let m = suc-mul (length xs) c in omega arith

pub sum_both : {A : Type 0} (f g : A → ℕ) (xs : List A) → sum_by (λ x. f x + g x) xs ≡ sum_by f xs + sum_by g xs
sum_both f g [] = refl
sum_both f g (x ∷ xs) = let r = sum_both f g xs in let a = sum_by-cons f x xs in let b = sum_by-cons g x xs in let c = sum_by-cons (λ x. f x + g x) x xs in omega arith

-- a sum that is not 0 has a term that is not
pub some_positive : {A : Type 0} (f : A → ℕ) (xs : List A) (d : A) → 0 < sum_by f xs → (j : ℕ) × (j < length xs) × (0 < f (get_or xs j d))
some_positive f [] d h = absurd (omega arith)
some_positive f (x ∷ xs) d h = let s = sum_by-cons f x xs in dite (ℕ_discrete (f x) 0)
    (λ (e : f x ≡ 0). let r = some_positive f xs d (omega arith) in (suc r.0, (let i = r.1 in omega arith), r.2))
    (λ (ne : f x ≢ 0). (0, omega arith, omega arith))
