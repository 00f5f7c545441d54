-- The parts of a graph as lists: how long they are, and that skip vectors can be made of them.
use Rattle.std.proofs.Common.{◌≡◌, ℕ, suc, ◌+◌, ◌-◌, ◌^◌, ◌<◌, ◌≤◌, arith, refl, sym, ◌∙◌, ap, subst, Bool, true, false, List, [], ◌∷◌, ◌++◌, length, map, get_or, slice_index, cond, take, nat_cmp, nat_eq}
use Rattle.std.specs.Prelude.{All}
use Rattle.std.specs.List.{AllPairs, Contains, filter, range_with_len}
use Rattle.std.specs.Cmp.Lexicographic.{slice_cmp}
use Rattle.std.specs.Cmp.{nat_cmp_is}
use Rattle.std.specs.Ordering.{ordering_then, is_le}
use Rattle.std.specs.declared.cmp.Ordering.TheVariants.{Less}
use Rattle.std.proofs.lemmas.List.{take_more}
use Rattle.std.proofs.lemmas.List.Elements.{Contains-get_or}
use Rattle.std.proofs.lemmas.List.FromFn.{get_or-map-range_with_len, length-range_with_len, length-map-range_with_len}
use Rattle.std.proofs.lemmas.List.Sums.{length-filter, count_by-le-length}
use Rattle.std.proofs.lemmas.Nat.{pow_pos}
use Rattle.std.proofs.Math.Pow.{pow_mono}
use Rattle.dpe_base.specs.declared.TheConstants.{N_MAX}
use Rattle.dpe_base.specs.Sets.{Has, union, single, full, size, member, members, members_below, alone, list_order}
use Rattle.dpe_base.proofs.SetLaws.{sets, same_set, full_limit, single_has, empty_has}
use Rattle.dpe_base.proofs.SizeLaws.{size_one, size-single}
use Rattle.dpe_base.proofs.ListOrder.{members_more}
use Rattle.join_graph.specs.Graphs.{JoinGraph, IsGraph, Connected}
use Rattle.join_graph.proofs.GraphLaws.{connected_single}
use Rattle.pair_stream.specs.Connectivity.{is_connected}
use Rattle.pair_stream.specs.Parts.{part, parts_of, inserted, in_list_order, connected_sets, connected_of_size, Before}
use Rattle.pair_stream.proofs.Lists.{contains_map, contains_from_map, contains_range, contains_from_range, pairs_map, pairs_range}
use Rattle.pair_stream.proofs.PartLaws.{IsInPart, part_has, part_ordered, unique}
use Rattle.skip_vector.specs.Skips.{IsPart}
use Rattle.enum_dpsize.specs.Dpsva.{AreParts}

-- ---- the first part has the relations

members-empty : members 0 ≡ []
unfolding members_below alone member
members-empty = refl

members-single : (i : ℕ) → i < 32 → members (single i) ≡ i ∷ []
members-single i l =
    ap members alone_is ∙ members_more 0 i l (λ k h. absurd (empty_has k h)) ∙ ap (λ r. r ++ i ∷ []) members-empty
  where
    alone_is : single i ≡ union 0 (single i)
    alone_is = same_set _ _ (λ r. grind (arith, sets))

single_before : (i j : ℕ) → i < j → j < 32 → Before (single i) (single j)
single_before i j l m =
    ap (λ r. slice_cmp nat_cmp r (members (single j))) (members-single i (omega arith))
    ∙ ap (slice_cmp nat_cmp (i ∷ [])) (members-single j m)
    ∙ sym first
  where
    first : Less ≡ slice_cmp nat_cmp (i ∷ []) (j ∷ [])
    first = ap (λ o. ordering_then o (slice_cmp nat_cmp [] [])) (nat_cmp_is i j Less l)

module _ (g : JoinGraph) (ok : IsGraph g) where
  singles_before : AllPairs Before (map single (range_with_len 0 g.n))
  singles_before =
      pairs_map Before (λ x y. x < y) single (range_with_len 0 g.n) (pairs_range 0 g.n)
      (λ x y cx cy l. single_before x y l (omega (arith, (contains_from_range 0 g.n y cy).1, ok.few)))

  single_in : (s : ℕ) → Contains (part g 1) s → Contains (map single (range_with_len 0 g.n)) s
  single_in s c =
      let p : IsInPart g ok 1 s = (part_has g ok 1 s).0 c in
      let r : (r : ℕ) × (s ≡ single r) = size_one s p.sized in
      let known : r.0 < g.n = full_limit g.n r.0 (p.connected.within r.0 (subst (λ t. Has t r.0) (sym r.1) (single_has r.0))) in
      subst (Contains (map single (range_with_len 0 g.n))) (sym r.1) (contains_map single (range_with_len 0 g.n) r.0 (contains_range 0 g.n r.0 (omega arith) (omega arith)))

  in_single : (s : ℕ) → Contains (map single (range_with_len 0 g.n)) s → Contains (part g 1) s
  in_single s c =
      let r : (r : ℕ) × Contains (range_with_len 0 g.n) r × (single r ≡ s) = contains_from_map single (range_with_len 0 g.n) s c in
      let known : r.0 < g.n = omega (arith, (contains_from_range 0 g.n r.0 r.1).1) in
      (part_has g ok 1 s).1 (record {
        connected = subst (Connected g) r.2 (connected_single g r.0 known);
        sized = ap size (sym r.2) ∙ size-single r.0;
      })

  pub first_part_length : length (part g 1) ≡ g.n
  first_part_length =
      ap length (unique (part g 1) (map single (range_with_len 0 g.n)) (part_ordered g ok 1) singles_before single_in in_single)
      ∙ length-map-range_with_len single 0 g.n

  -- ---- skip vectors can be made of a part

  in_part : (k i : ℕ) → i < length (part g k) → IsInPart g ok k (slice_index (part g k) i)
  in_part k i l = (part_has g ok k (slice_index (part g k) i)).0 (Contains-get_or (part g k) i 0 l)

  pub part_can_skip : (k : ℕ) → 1 ≤ k → IsPart (part g k)
  part_can_skip k some =
      record {
        some = λ i l. omega (arith, (in_part k i l).sized);
        one_size = λ i j l m. (in_part k i l).sized ∙ sym (in_part k j m).sized;
        ascends = λ i j l m. part_ordered g ok k i j 0 l m;
      }

-- ---- how long a part is

inserted_length : (s : ℕ) (ts : List ℕ) → length (inserted s ts) ≡ suc (length ts)
inserted_length s [] = refl
inserted_length s (t ∷ ts) = at (is_le (list_order s t)) (inserted_length s ts)
  where
    at : (b : Bool) → length (inserted s ts) ≡ suc (length ts) → length (cond b (s ∷ t ∷ ts) (t ∷ inserted s ts)) ≡ suc (suc (length ts))
    at true e = refl
    at false e = ap suc e

order_length : (ss : List ℕ) → length (in_list_order ss) ≡ length ss
order_length [] = refl
order_length (s ∷ ss) = inserted_length s (in_list_order ss) ∙ ap suc (order_length ss)

filter_few : (p : ℕ → Bool) (xs : List ℕ) → length (filter p xs) ≤ length xs
filter_few p xs = omega (arith, length-filter p xs, count_by-le-length p xs)

pub part_few : (g : JoinGraph) (k : ℕ) → IsGraph g → length (part g k) ≤ 2 ^ N_MAX
unfolding part connected_of_size connected_sets full
part_few g k ok =
    omega (
      arith,
      order_length (filter (λ s. nat_eq (size s) k) (filter (is_connected g) (range_with_len 0 (suc (2 ^ g.n - 1))))),
      filter_few (λ s. nat_eq (size s) k) (filter (is_connected g) (range_with_len 0 (suc (2 ^ g.n - 1)))),
      filter_few (is_connected g) (range_with_len 0 (suc (2 ^ g.n - 1))),
      length-range_with_len 0 (suc (2 ^ g.n - 1)),
      pow_pos g.n,
      pow_mono {i = g.n} {j = N_MAX} ok.few,
    )

-- ---- the parts that the code reads

pub parts_length : (g : JoinGraph) (parts : List (List ℕ)) → parts ≡ parts_of g → length parts ≡ g.n
parts_length g parts e = ap length e ∙ length-map-range_with_len (part g) 1 g.n

pub part_read : (g : JoinGraph) (parts : List (List ℕ)) (k : ℕ) (xs : List ℕ) → parts ≡ parts_of g → 1 ≤ k → k ≤ g.n → xs ≡ get_or parts (k - 1) xs → xs ≡ part g k
part_read g parts k xs e l m h =
    h ∙ ap (λ ps. get_or ps (k - 1) xs) e ∙ get_or-map-range_with_len (part g) 1 g.n (k - 1) k xs (omega arith) (omega arith)

pub part_connected : (g : JoinGraph) (k : ℕ) (xs : List ℕ) → IsGraph g → xs ≡ part g k → All (Connected g) xs
part_connected g k xs ok e i d l =
    ((part_has g ok k (get_or xs i d)).0 (subst (λ ys. Contains ys (get_or xs i d)) e (Contains-get_or xs i d l))).connected

pub set_connected : (g : JoinGraph) (k : ℕ) (xs : List ℕ) (i x : ℕ) → IsGraph g → xs ≡ part g k → i < length xs → x ≡ get_or xs i x → Connected g x
set_connected g k xs i x ok e l h = subst (Connected g) (sym h) (part_connected g k xs ok e i x l)

-- ---- the parts of some graph

parts_known : (parts : List (List ℕ)) → AreParts parts → (1 ≤ length parts) × (length parts ≤ N_MAX)
parts_known parts a = let e : length parts ≡ a.0.n = parts_length a.0 parts a.2 in (omega (arith, a.1.some), omega (arith, a.1.few))

pub first_known : (parts : List (List ℕ)) → AreParts parts → 1 ≤ length parts
first_known parts a = (parts_known parts a).0

pub parts_few : (parts : List (List ℕ)) → AreParts parts → length parts ≤ N_MAX
parts_few parts a = (parts_known parts a).1

-- there are as many parts as sets in the first
pub count_is : (parts : List (List ℕ)) (xs : List ℕ) → AreParts parts → xs ≡ get_or parts 0 xs → length xs ≡ length parts
count_is parts xs a h =
    ap length (part_read a.0 parts 1 xs a.2 (omega arith) (omega (arith, a.1.some)) h)
    ∙ first_part_length a.0 a.1
    ∙ sym (parts_length a.0 parts a.2)

pub parts_can_skip : (parts : List (List ℕ)) (k : ℕ) (xs : List ℕ) → AreParts parts → 1 ≤ k → k ≤ length parts → xs ≡ get_or parts (k - 1) xs → IsPart xs
parts_can_skip parts k xs a l m h =
    let e : xs ≡ part a.0 k = part_read a.0 parts k xs a.2 l (omega (arith, parts_length a.0 parts a.2)) h in
    subst IsPart (sym e) (part_can_skip a.0 a.1 k l)

-- one more part
pub part_added : (parts : List (List ℕ)) (k : ℕ) (had new : List (List ℕ)) (xs : List ℕ) → had ≡ take k parts → k < length parts → xs ≡ get_or parts k xs → new ≡ had ++ xs ∷ [] → new ≡ take (k + 1) parts
part_added parts k had new xs e l h n =
    n ∙ ap (λ ps. ps ++ xs ∷ []) e ∙ ap (λ (ys : List ℕ). take k parts ++ ys ∷ []) h ∙ sym (take_more parts k xs l)
