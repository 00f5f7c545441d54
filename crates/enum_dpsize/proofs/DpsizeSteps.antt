-- One step of the stream by sizes.
use Rattle.std.proofs.Common.{add-one, ◌≡◌, ℕ, suc, ◌+◌, ◌-◌, ◌*◌, ◌/◌, ◌<◌, ◌≤◌, ◌^◌, inl, inr, arith, sym, ◌∙◌, ap, subst, true, List, [], ◌∷◌, ◌++◌, length, get_or, drop, nat_eq, append_assoc}
use Rattle.std.specs.Prelude.{Some}
use Rattle.std.specs.List.{flat_map, range_with_len}
use Rattle.std.proofs.lemmas.Bool.{eqb-true}
use Rattle.std.proofs.lemmas.List.{drop_all}
use Rattle.dpe_base.specs.declared.TheConstants.{N_MAX}
use Rattle.dpe_base.specs.declared.pair.Pair.{Pair}
use Rattle.join_graph.specs.Graphs.{JoinGraph, IsGraph}
use Rattle.pair_stream.specs.Parts.{part}
use Rattle.pair_stream.proofs.DpsubSteps.{one_on}
use Rattle.enum_dpsize.specs.Dpsize.{pairs_sized, pairs_with, start_at, seq_dpsize}
use Rattle.enum_dpsize.specs.declared.cursor.Cursor.{Cursor}
use Rattle.enum_dpsize.specs.DpsizeLeft.{IsCursor, IsDpsizeState, NextSizes, rows_from, dpsize_left, left_at, is_same, sizes_rank}
use Rattle.enum_dpsize.proofs.RowLaws.{row_begins, rows_over, rows_taken, rows_next}
use Rattle.enum_dpsize.proofs.PartLists.{parts_length, part_read, part_few}

abbrev of_size : JoinGraph → ℕ → List Pair
of_size g s = flat_map (λ k. pairs_sized g k (s - k)) (range_with_len 1 (s / 2))

abbrev sizes_after : JoinGraph → ℕ → List Pair
sizes_after g s = flat_map (of_size g) (range_with_len (suc s) (g.n - s))

abbrev smalls_after : JoinGraph → ℕ → ℕ → List Pair
smalls_after g s k = flat_map (λ k. pairs_sized g k (s - k)) (range_with_len (suc k) (s / 2 - k))

sized_rows : (g : JoinGraph) (k l : ℕ) → pairs_sized g k l ≡ rows_from g (part g l) (nat_eq k l) (drop 0 (part g k)) (start_at (nat_eq k l) 0)
unfolding pairs_sized
sized_rows g k l = sym (row_begins g (part g k) (part g l) (nat_eq k l) 0 (λ t. ap (part g) (eqb-true k l t)))

pub smalls_next : (g : JoinGraph) (s k : ℕ) → k * 2 + 2 ≤ s → smalls_after g s k ≡ pairs_sized g (suc k) (s - suc k) ++ smalls_after g s (suc k)
smalls_next g s k l =
    ap (λ (n : ℕ). flat_map (λ k. pairs_sized g k (s - k)) (range_with_len (suc k) n)) count
    ∙ ap (λ (n : ℕ). pairs_sized g (suc k) (s - suc k) ++ flat_map (λ k. pairs_sized g k (s - k)) (range_with_len n (s / 2 - suc k))) next
  where
    count : s / 2 - k ≡ suc (s / 2 - suc k)
    count = omega arith

    next : suc k + 1 ≡ suc (suc k)
    next = omega arith

smalls_none : (g : JoinGraph) (s k : ℕ) → s < k * 2 + 2 → smalls_after g s k ≡ []
smalls_none g s k l = ap (λ (n : ℕ). flat_map (λ k. pairs_sized g k (s - k)) (range_with_len (suc k) n)) count
  where
    count : s / 2 - k ≡ 0
    count = omega arith

size_first : (g : JoinGraph) (s : ℕ) → 2 ≤ s → of_size g s ≡ pairs_sized g 1 (s - 1) ++ smalls_after g s 1
size_first g s l =
    ap (λ (n : ℕ). flat_map (λ k. pairs_sized g k (s - k)) (range_with_len 1 n)) count
  where
    count : s / 2 ≡ suc (s / 2 - 1)
    count = omega arith

sizes_next : (g : JoinGraph) (s : ℕ) → s < g.n → sizes_after g s ≡ of_size g (suc s) ++ sizes_after g (suc s)
sizes_next g s l =
    ap (λ (n : ℕ). flat_map (of_size g) (range_with_len (suc s) n)) count
    ∙ ap (λ (n : ℕ). of_size g (suc s) ++ flat_map (of_size g) (range_with_len n (g.n - suc s))) (add-one (suc s))
  where
    count : g.n - s ≡ suc (g.n - suc s)
    count = omega arith

sizes_none : (g : JoinGraph) (s : ℕ) → g.n ≤ s → sizes_after g s ≡ []
sizes_none g s l = ap (λ (n : ℕ). flat_map (of_size g) (range_with_len (suc s) n)) count
  where
    count : g.n - s ≡ 0
    count = omega arith

abbrev rows_at : JoinGraph → ℕ → ℕ → ℕ → ℕ → List Pair
rows_at g s k i j = rows_from g (part g (s - k)) (nat_eq k (s - k)) (drop i (part g k)) j

pub left_taken : (g : JoinGraph) (s k i j i' j' : ℕ) (p : Pair) → rows_at g s k i j ≡ p ∷ rows_at g s k i' j' → dpsize_left g s k i j ≡ p ∷ dpsize_left g s k i' j'
unfolding dpsize_left
left_taken g s k i j i' j' p e = ap (λ xs. xs ++ (smalls_after g s k ++ sizes_after g s)) e

left_passed : (g : JoinGraph) (s k i j i' j' : ℕ) → rows_at g s k i j ≡ rows_at g s k i' j' → dpsize_left g s k i j ≡ dpsize_left g s k i' j'
unfolding dpsize_left
left_passed g s k i j i' j' e = ap (λ xs. xs ++ (smalls_after g s k ++ sizes_after g s)) e

pub left_small : (g : JoinGraph) (s k i j : ℕ) → rows_at g s k i j ≡ [] → k * 2 + 2 ≤ s → dpsize_left g s k i j ≡ dpsize_left g s (suc k) 0 (start_at (nat_eq (suc k) (s - suc k)) 0)
unfolding dpsize_left
left_small g s k i j e l =
    ap (λ xs. xs ++ (smalls_after g s k ++ sizes_after g s)) e
    ∙ ap (λ xs. xs ++ sizes_after g s) (smalls_next g s k l)
    ∙ append_assoc (pairs_sized g (suc k) (s - suc k)) (smalls_after g s (suc k)) (sizes_after g s)
    ∙ ap (λ xs. xs ++ (smalls_after g s (suc k) ++ sizes_after g s)) (sized_rows g (suc k) (s - suc k))

pub left_size : (g : JoinGraph) (s k i j : ℕ) → rows_at g s k i j ≡ [] → s < k * 2 + 2 → s < g.n → 1 ≤ s → dpsize_left g s k i j ≡ dpsize_left g (suc s) 1 0 (start_at (nat_eq 1 (suc s - 1)) 0)
unfolding dpsize_left
left_size g s k i j e l m some =
    ap (λ xs. xs ++ (smalls_after g s k ++ sizes_after g s)) e
    ∙ ap (λ xs. xs ++ sizes_after g s) (smalls_none g s k l)
    ∙ sizes_next g s m
    ∙ ap (λ xs. xs ++ sizes_after g (suc s)) (size_first g (suc s) (omega_two s some))
    ∙ append_assoc (pairs_sized g 1 (suc s - 1)) (smalls_after g (suc s) 1) (sizes_after g (suc s))
    ∙ ap (λ xs. xs ++ (smalls_after g (suc s) 1 ++ sizes_after g (suc s))) (sized_rows g 1 (suc s - 1))
  where
    omega_two : (s : ℕ) → 1 ≤ s → 2 ≤ suc s
    omega_two s l = omega arith

pub left_end : (g : JoinGraph) (s k i j : ℕ) → rows_at g s k i j ≡ [] → s < k * 2 + 2 → g.n ≤ s → dpsize_left g s k i j ≡ []
unfolding dpsize_left
left_end g s k i j e l m =
    ap (λ xs. xs ++ (smalls_after g s k ++ sizes_after g s)) e
    ∙ ap (λ xs. xs ++ sizes_after g s) (smalls_none g s k l)
    ∙ sizes_none g s m

-- ---- the start

pub left_start : (g : JoinGraph) (j : ℕ) → 2 ≤ g.n → j ≡ 1 → dpsize_left g 2 1 0 j ≡ seq_dpsize g
unfolding dpsize_left seq_dpsize
left_start g j l e =
    ap (λ (k : ℕ). rows_from g (part g 1) true (drop 0 (part g 1)) k ++ (smalls_after g 2 1 ++ sizes_after g 2)) e
    ∙ ap (λ xs. xs ++ (smalls_after g 2 1 ++ sizes_after g 2)) (sym (sized_rows g 1 1))
    ∙ sym (append_assoc (pairs_sized g 1 1) (smalls_after g 2 1) (sizes_after g 2))
    ∙ ap (λ xs. xs ++ sizes_after g 2) (sym (size_first g 2 (omega arith)))
    ∙ sym (sizes_from g l)
  where
    count : (g : JoinGraph) → 2 ≤ g.n → g.n - 1 ≡ suc (g.n - 2)
    count g l = omega arith

    sizes_from : (g : JoinGraph) → 2 ≤ g.n → flat_map (of_size g) (range_with_len 2 (g.n - 1)) ≡ of_size g 2 ++ sizes_after g 2
    sizes_from g l = ap (λ (n : ℕ). flat_map (of_size g) (range_with_len 2 n)) (count g l)

pub left_start_one : (g : JoinGraph) (i j : ℕ) → g.n ≡ 1 → length (part g 1) ≤ i → dpsize_left g 2 1 i j ≡ seq_dpsize g
unfolding dpsize_left seq_dpsize
left_start_one g i j e l =
    ap (λ zs. rows_from g (part g 1) true zs j ++ (smalls_after g 2 1 ++ sizes_after g 2)) (drop_all i (part g 1) l)
    ∙ ap (λ (n : ℕ). flat_map (of_size g) (range_with_len 3 n)) none
    ∙ sym (ap (λ (n : ℕ). flat_map (of_size g) (range_with_len 2 n)) none_too)
  where
    none : g.n - 2 ≡ 0
    none = omega arith

    none_too : g.n - 1 ≡ 0
    none_too = omega arith

-- ---- the two lists that the code reads

module _ (g : JoinGraph) (parts : List (List ℕ)) (c : Cursor) (f : IsDpsizeState g parts c) where
  pub first_known : (1 ≤ c.small) × (c.small ≤ length parts)
  first_known = (f.cursor.small, omega (arith, f.cursor.fits, parts_length g parts f.made))

  pub second_known : (1 ≤ c.size - c.small) × (c.size - c.small ≤ length parts)
  second_known = (omega (arith, f.cursor.small, f.cursor.half), omega (arith, f.cursor.known, parts_length g parts f.made))

  pub first_list : (xs : List ℕ) → xs ≡ get_or parts (c.small - 1) xs → xs ≡ part g c.small
  first_list xs h = part_read g parts c.small xs f.made f.cursor.small f.cursor.fits h

  pub second_list : (ys : List ℕ) → ys ≡ get_or parts (c.size - c.small - 1) ys → ys ≡ part g (c.size - c.small)
  second_list ys h = part_read g parts (c.size - c.small) ys f.made (omega (arith, f.cursor.small, f.cursor.half)) (omega (arith, f.cursor.known)) h

-- ---- what the code of a step needs

-- a row that is left gives a pair, or is over
module _ (g : JoinGraph) (c : Cursor) (xs ys : List ℕ) (x j : ℕ) (ex : xs ≡ part g c.small) (ey : ys ≡ part g (c.size - c.small)) (l : c.row < length xs) (e : x ≡ get_or xs c.row x) where
  pub taken_here : (p : Pair) → pairs_with g (drop c.next ys) x ≡ p ∷ pairs_with g (drop j ys) x → left_at g c ≡ p ∷ dpsize_left g c.size c.small c.row j
  taken_here p h =
      left_taken g c.size c.small c.row c.next c.row j p
      (subst (λ zs. rows_from g (part g (c.size - c.small)) (is_same c) (drop c.row zs) c.next ≡ p ∷ rows_from g (part g (c.size - c.small)) (is_same c) (drop c.row zs) j) ex
      (subst (λ zs. rows_from g zs (is_same c) (drop c.row xs) c.next ≡ p ∷ rows_from g zs (is_same c) (drop c.row xs) j) ey (rows_taken g xs ys (is_same c) c.row c.next j x p l e h)))

  pub passed_here : pairs_with g (drop c.next ys) x ≡ [] → j ≡ start_at (is_same c) (c.row + 1) → left_at g c ≡ dpsize_left g c.size c.small (c.row + 1) j
  passed_here h n =
      left_passed g c.size c.small c.row c.next (c.row + 1) j
      (subst (λ zs. rows_from g (part g (c.size - c.small)) (is_same c) (drop c.row zs) c.next ≡ rows_from g (part g (c.size - c.small)) (is_same c) (drop (c.row + 1) zs) j) ex
      (subst (λ zs. rows_from g zs (is_same c) (drop c.row xs) c.next ≡ rows_from g zs (is_same c) (drop (c.row + 1) xs) j) ey
      (rows_next g xs ys (is_same c) c.row c.next j x l e h one n)))
    where
      one : is_same c ≡ true → xs ≡ ys
      one t = ex ∙ ap (part g) (eqb-true c.small (c.size - c.small) t) ∙ sym ey

-- the sizes have no row left
module _ (g : JoinGraph) (c : Cursor) (o : length (part g c.small) ≤ c.row) where
  none_here : rows_at g c.size c.small c.row c.next ≡ []
  none_here = rows_over g (part g c.small) (part g (c.size - c.small)) (is_same c) c.row c.next o

  pub end_here : c.size < c.small * 2 + 2 → g.n ≤ c.size → left_at g c ≡ []
  end_here l m = left_end g c.size c.small c.row c.next none_here l m

  pub step_sizes : (n s k j : ℕ) → n ≡ g.n → 1 ≤ c.small → c.small * 2 ≤ c.size → NextSizes c.size c.small n (Some (s, k)) → j ≡ start_at (nat_eq k (s - k)) 0 → dpsize_left g s k 0 j ≡ left_at g c
  step_sizes n s k j en small half next ej =
      sym (elim next [
        | inl h ↦
            left_small g c.size c.small c.row c.next none_here h.0
            ∙ ap (λ (x : ℕ). dpsize_left g x (suc c.small) 0 (start_at (nat_eq (suc c.small) (x - suc c.small)) 0)) (sym h.1)
            ∙ ap (λ (x : ℕ). dpsize_left g s x 0 (start_at (nat_eq x (s - x)) 0)) (one_on _ _ h.2)
            ∙ ap (dpsize_left g s k 0) (sym ej)
        | inr h ↦
            left_size g c.size c.small c.row c.next none_here h.0 (omega (arith, h.1, en)) (omega (arith, small, half))
            ∙ ap (λ (x : ℕ). dpsize_left g x 1 0 (start_at (nat_eq 1 (x - 1)) 0)) (one_on _ _ h.2)
            ∙ ap (λ (x : ℕ). dpsize_left g s x 0 (start_at (nat_eq x (s - x)) 0)) (sym h.3)
            ∙ ap (dpsize_left g s k 0) (sym ej)
      ])

-- ---- the loop of a stream ends

abbrev pub rank : JoinGraph → Cursor → ℕ
rank g c = sizes_rank g c * (2 ^ N_MAX + 1) + (length (part g c.small) - c.row)

pub rank_by_sizes : (g : JoinGraph) (c d : Cursor) → IsGraph g → sizes_rank g d < sizes_rank g c → rank g d < rank g c
rank_by_sizes g c d ok l = omega (arith, l, part_few g d.small ok)

-- d is c in the next row
module _ (g : JoinGraph) (c d : Cursor) (size : d.size ≡ c.size) (small : d.small ≡ c.small) (row : d.row ≡ c.row + 1) where
  rows_same : length (part g d.small) ≡ length (part g c.small)
  rows_same = ap (λ k. length (part g k)) small

  pub row_fits : IsCursor g c → c.row < length (part g c.small) → IsCursor g d
  row_fits f l = record { graph = f.graph; small = omega (arith, small, f.small); half = omega (arith, size, small, f.half); known = omega (arith, size, small, f.known); fits = omega (arith, small, f.fits); row_known = omega (arith, row, rows_same, l) }

  pub row_falls : c.row < length (part g c.small) → rank g d < rank g c
  row_falls l = omega (arith, size, small, row, rows_same, l)

  pub row_left : dpsize_left g c.size c.small (c.row + 1) d.next ≡ left_at g d
  row_left =
      ap (λ (x : ℕ). dpsize_left g x c.small (c.row + 1) d.next) (sym size)
      ∙ ap (λ (x : ℕ). dpsize_left g d.size x (c.row + 1) d.next) (sym small)
      ∙ ap (λ (x : ℕ). dpsize_left g d.size d.small x d.next) (sym row)
