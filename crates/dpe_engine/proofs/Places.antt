-- How many pairs a list can have, and those of smaller unions.
use Rattle.std.proofs.Common.{◌≡◌, ◌≢◌, ◌↔◌, ℕ, ◌+◌, ◌*◌, ◌/◌, ◌%◌, ◌^◌, ◌<◌, ◌≤◌, ◌==◌, inl, inr, nat_lt, Bool, true, false, cond, List, [], ◌∷◌, ◌++◌, All, AllPairs, Contains, map, length, eqb, refl, sym, subst, ap, ◌∙◌, arith, zero-add, add-mul, mul-le-mul, mul-le-mul_right, eq-eqb, eqb-true}
use Rattle.std.specs.List.{list_any}
use Rattle.std.proofs.lemmas.Bool.{cases_lt, lt-ltb}
use Rattle.std.proofs.lemmas.Bool.Decides.{nat_tests, Decides-eqb}
use Rattle.std.proofs.lemmas.Nat.{mul-pow, div-mul-add, mod-mul-add}
use Rattle.std.proofs.Math.Pow.{pow_mono}
use Rattle.std.proofs.lemmas.List.{length-map}
use Rattle.std.proofs.lemmas.List.Elements.{All-head, All-tail, Contains-append_left, Contains-append_right, Contains-append_cases}
use Rattle.std.proofs.lemmas.Map.Made.{IsDistinct-from_AllPairs}
use Rattle.std.proofs.lemmas.Map.Views.{Contains-from_any}
use Rattle.std.proofs.lemmas.Map.Steps.{length-le_from_distinct_below}
use Rattle.dpe_base.specs.declared.TheConstants.{N_MAX}
use Rattle.dpe_base.specs.declared.pair.Pair.{Pair}
use Rattle.dpe_base.specs.Queries.{JoinQuery, relations, IsQuery}
use Rattle.dpe_base.proofs.SizeLaws.{full_below}
use Rattle.join_graph.specs.Graphs.{Pairs, graph_of}
use Rattle.pair_stream.specs.Orders.{Once}
use Rattle.pair_stream.proofs.Lists.{contains_filter, contains_from_filter, passes_from_filter, contains_from_map, pairs_map}
use Rattle.reorder_buffer.specs.declared.TheConstants.{SIZES}
use Rattle.reorder_buffer.specs.Groups.{union_size, group_of}
use Rattle.reorder_buffer.specs.Buffers.{AreSmall}
use Rattle.dpe_engine.specs.Running.Between.{below}

-- ---- how many pairs

-- the two sides as the digits of a number of base m
abbrev digits : ℕ → Pair → ℕ
digits m p = p.a * m + p.b

same_digits : (m : ℕ) (p q : Pair) → p.b < m → q.b < m → digits m p ≡ digits m q → p ≡ q
same_digits m p q l k e =
    let first : p.a ≡ q.a = sym (div-mul-add p.a m p.b l) ∙ (ap (λ (n : ℕ). n / m) e ∙ div-mul-add q.a m q.b k) in
    let second : p.b ≡ q.b = sym (mod-mul-add p.a m p.b l) ∙ (ap (λ (n : ℕ). n % m) e ∙ mod-mul-add q.a m q.b k) in
    ap (λ (a : ℕ). record { a = a; b = p.b }) first ∙ ap (λ (b : ℕ). record { a = q.a; b = b }) second

digits_below : (m : ℕ) (p : Pair) → p.a < m → p.b < m → digits m p < m * m
digits_below m p l k =
    let next : (p.a + 1) * m ≡ p.a * m + 1 * m = add-mul p.a 1 m in
    let most : (p.a + 1) * m ≤ m * m = mul-le-mul_right m (omega arith) in
    omega arith

-- pairs of two numbers below m are at most m * m
few_below : (m : ℕ) (pairs : List Pair) → Once pairs → ((p : Pair) → Contains pairs p → (p.a < m) × (p.b < m)) → length pairs ≤ m * m
few_below m pairs once low =
    let numbers : List ℕ = map (digits m) pairs in
    let apart : AllPairs (λ x y. x ≢ y) numbers = pairs_map (λ x y. x ≢ y) (λ p q. p ≢ q) (digits m) pairs once (λ p q cp cq ne e. ne (same_digits m p q (low p cp).1 (low q cq).1 e)) in
    let within : (n : ℕ) → list_any (eqb n) numbers ≡ true → n < m * m = λ n h. inside n (contains_from_map (digits m) pairs n (Contains-from_any (λ x y e. eqb-true x y e) n numbers h)) in
    let long : length numbers ≤ m * m = length-le_from_distinct_below numbers (m * m) (IsDistinct-from_AllPairs Decides-eqb numbers apart) within in
    let same : length numbers ≡ length pairs = length-map pairs (digits m) in
    omega arith
  where
    inside : (n : ℕ) → (p : Pair) × Contains pairs p × (digits m p ≡ n) → n < m * m
    inside n r = let b = digits_below m r.0 (low r.0 r.1).0 (low r.0 r.1).1 in let e = r.2 in omega arith

pub few_pairs : (q : JoinQuery) (pairs : List Pair) → IsQuery q → ((p : Pair) → Contains pairs p → Pairs (graph_of q) p) → Once pairs → length pairs ≤ 4 ^ relations q
few_pairs q pairs ok within once =
    let few = few_below (2 ^ relations q) pairs once (λ p c. (full_below p.a (relations q) (within p c).first.within, full_below p.b (relations q) (within p c).second.within)) in
    let same : 4 ^ relations q ≡ 2 ^ relations q * 2 ^ relations q = mul-pow 2 2 (relations q) in
    omega arith

-- and so fewer than the tickets of a memo by far
pub few_in_all : (q : JoinQuery) (pairs : List Pair) → IsQuery q → ((p : Pair) → Contains pairs p → Pairs (graph_of q) p) → Once pairs → length pairs ≤ 4 ^ N_MAX
few_in_all q pairs ok within once =
    let few = few_pairs q pairs ok within once in
    let same : 4 ^ relations q ≡ 2 ^ relations q * 2 ^ relations q = mul-pow 2 2 (relations q) in
    let low : 2 ^ relations q ≤ 2 ^ N_MAX = pow_mono {i = relations q} {j = N_MAX} ok.few in
    let most : 2 ^ relations q * 2 ^ relations q ≤ 2 ^ N_MAX * 2 ^ N_MAX = mul-le-mul low low in
    omega arith

-- ---- the pairs of smaller unions

pub in_below : (n : ℕ) (xs : List Pair) (p : Pair) → Contains (below n xs) p → Contains xs p × (union_size p < n)
in_below n xs p c = (
  contains_from_filter (λ r. nat_lt (union_size r) n) xs p c,
  is (union_size p) (passes_from_filter (λ r. nat_lt (union_size r) n) xs p c),
)
  where
    is : (u : ℕ) → nat_lt u n ≡ true → u < n
    is u e = grind (arith, nat_tests)

pub below_has : (n : ℕ) (xs : List Pair) (p : Pair) → Contains xs p → union_size p < n → Contains (below n xs) p
below_has n xs p c low = contains_filter (λ r. nat_lt (union_size r) n) xs p c (lt-ltb (union_size p) n low)

pub in_group : (n : ℕ) (xs : List Pair) (p : Pair) → Contains (group_of n xs) p → Contains xs p × (union_size p ≡ n)
in_group n xs p c = (
  contains_from_filter (λ r. union_size r == n) xs p c,
  eqb-true _ _ (passes_from_filter (λ r. union_size r == n) xs p c),
)

pub group_has : (n : ℕ) (xs : List Pair) (p : Pair) → Contains xs p → union_size p ≡ n → Contains (group_of n xs) p
group_has n xs p c e = contains_filter (λ r. union_size r == n) xs p c (eq-eqb _ _ e)

-- one size more
pub below_more : (n : ℕ) (xs : List Pair) (p : Pair) → Contains (below (n + 1) xs) p ↔ Contains (below n xs ++ group_of n xs) p
below_more n xs p = (
  λ c.
      let m : Contains xs p × (union_size p < n + 1) = in_below (n + 1) xs p c in
      elim (cases_lt (union_size p) n) [
        | inl low ↦ Contains-append_left (below n xs) (group_of n xs) p (below_has n xs p m.0 low)
        | inr high ↦ Contains-append_right (below n xs) (group_of n xs) p (group_has n xs p m.0 (omega (arith, m.1)))
      ],
  λ c.
      elim (Contains-append_cases (below n xs) (group_of n xs) p c) [
        | inl low ↦ let m : Contains xs p × (union_size p < n) = in_below n xs p low in below_has (n + 1) xs p m.0 (omega (arith, m.1))
        | inr same ↦ let m : Contains xs p × (union_size p ≡ n) = in_group n xs p same in below_has (n + 1) xs p m.0 (omega (arith, m.1))
      ],
)

pub length-below : (n : ℕ) (xs : List Pair) → length (below (n + 1) xs) ≡ length (below n xs) + length (group_of n xs)
length-below n [] = refl
length-below n (x ∷ xs) =
    let a = kept (nat_lt (union_size x) (n + 1)) x (below (n + 1) xs) in
    let b = kept (nat_lt (union_size x) n) x (below n xs) in
    let c = kept (union_size x == n) x (group_of n xs) in
    let o = one (union_size x) in
    let r = length-below n xs in omega arith
  where
    kept : (b : Bool) (x : Pair) (l : List Pair) → length (cond b (x ∷ l) l) ≡ cond b 1 0 + length l
    kept true x l = omega arith
    kept false x l = sym (zero-add (length l))

    one : (u : ℕ) → cond (nat_lt u (n + 1)) 1 0 ≡ cond (nat_lt u n) 1 0 + cond (u == n) 1 0
    one u = grind (arith, nat_tests)

pub none_below : (xs : List Pair) → below 0 xs ≡ []
none_below [] = refl
none_below (x ∷ xs) = let F : Bool → Type 0 = λ b. cond b (x ∷ below 0 xs) (below 0 xs) ≡ [] in subst F (sym (no (union_size x))) (none_below xs)
  where
    no : (u : ℕ) → nat_lt u 0 ≡ false
    no u = grind (arith, nat_tests)

pub all_below : (n : ℕ) (xs : List Pair) → All (λ p. union_size p < n) xs → below n xs ≡ xs
all_below n [] all = refl
all_below n (x ∷ xs) all =
    let F : Bool → Type 0 = λ b. cond b (x ∷ below n xs) (below n xs) ≡ x ∷ xs in
    let rest = all_below n xs (All-tail (λ p. union_size p < n) x xs all) in
    subst F (sym (lt-ltb (union_size x) n (All-head (λ p. union_size p < n) x xs all))) (ap (λ (l : List Pair). x ∷ l) rest)

pub all_sizes : (xs : List Pair) → AreSmall xs → below SIZES xs ≡ xs
all_sizes xs small = all_below SIZES xs small
