-- Groups and fronts of a list of pairs.
use Rattle.std.proofs.Common.{◌≡◌, ℕ, ◌+◌, ◌≤◌, nat_lt, Bool, true, false, cond, List, [], ◌∷◌, length, refl, ap, arith, length-append}
use Rattle.std.proofs.lemmas.Bool.Decides.{nat_tests}
use Rattle.dpe_base.specs.declared.pair.Pair.{Pair}
use Rattle.dpe_base.specs.Sets.{union, size}
use Rattle.reorder_buffer.specs.Groups.{union_size, group_of, groups_below}
use Rattle.reorder_buffer.proofs.Weights.{groups_below-suc}
use Rattle.dpe_engine.specs.Running.Between.{below}

pub union_size_is : (p : Pair) → union_size p ≡ size (union p.a p.b)
unfolding union_size
union_size_is p = refl

pub length_below-le : (n : ℕ) (xs : List Pair) → length (below n xs) ≤ length xs
length_below-le n [] = omega arith
length_below-le n (x ∷ xs) = let r = length_below-le n xs in let o = one (nat_lt (union_size x) n) in omega arith
  where
    one : (b : Bool) → length (cond b (x ∷ below n xs) (below n xs)) ≤ 1 + length (below n xs)
    one true = omega arith
    one false = omega arith

-- how many groups there are, with one size more
pub groups_more : (n : ℕ) (xs : List Pair) → length (groups_below (n + 1) xs) ≡ length (groups_below n xs) + cond (nat_lt 0 (length (group_of n xs))) 1 0
groups_more n xs =
    let e = ap (λ (l : List (List Pair)). length l) (groups_below-suc n xs) in
    let a = length-append (groups_below n xs) (cond (nat_lt 0 (length (group_of n xs))) (group_of n xs ∷ []) []) in
    let o = one (nat_lt 0 (length (group_of n xs))) in omega arith
  where
    one : (b : Bool) → length (cond b (group_of n xs ∷ []) []) ≡ cond b 1 0 + 0
    one true = refl
    one false = refl

-- a group that has a pair is a round more, and one that has none isn't
pub counted_some : (n rounds_done : ℕ) (xs : List Pair) → 1 ≤ length (group_of n xs) → rounds_done + 1 + length (groups_below n xs) ≡ rounds_done + length (groups_below (n + 1) xs)
counted_some n rounds_done xs some = let e = groups_more n xs in let o = one (length (group_of n xs)) some in omega arith
  where
    one : (k : ℕ) → 1 ≤ k → cond (nat_lt 0 k) 1 0 + 0 ≡ 1
    one k some = grind (arith, nat_tests)

pub counted_none : (n rounds_done : ℕ) (xs : List Pair) → length (group_of n xs) ≡ 0 → rounds_done + length (groups_below n xs) ≡ rounds_done + length (groups_below (n + 1) xs)
counted_none n rounds_done xs none = let e = groups_more n xs in let o = one (length (group_of n xs)) none in omega arith
  where
    one : (k : ℕ) → k ≡ 0 → cond (nat_lt 0 k) 1 0 + 0 ≡ 0
    one k none = grind (arith, nat_tests)
