-- The probes that are left, row by row and size by size.
use Rattle.std.proofs.Common.{add-one, ◌≡◌, ℕ, suc, ◌+◌, ◌-◌, ◌*◌, ◌/◌, ◌^◌, ◌<◌, ◌≤◌, inl, inr, arith, refl, sym, ◌∙◌, ap, subst, Bool, List, length, get_or, slice_index, nat_eq, nat_lt}
use Rattle.std.specs.Prelude.{Some}
use Rattle.std.specs.List.{range_with_len, sum_by}
use Rattle.std.proofs.lemmas.Bool.{cases_lt, cond-true, cond-false, lt-ltb, le-ltb}
use Rattle.std.proofs.lemmas.List.{get_or_default}
use Rattle.std.proofs.lemmas.List.Sums.{sum_by-cons, sum_by-le}
use Rattle.std.proofs.lemmas.List.FromFn.{length-range_with_len}
use Rattle.std.proofs.lemmas.Nat.{mul-le}
use Rattle.dpe_base.specs.declared.TheConstants.{N_MAX}
use Rattle.join_graph.specs.Graphs.{JoinGraph, IsGraph}
use Rattle.pair_stream.specs.Parts.{part}
use Rattle.pair_stream.proofs.Lists.{all_by, contains_from_range}
use Rattle.skip_vector.specs.Skips.{probes_from}
use Rattle.skip_vector.proofs.ProbeLaws.{probes_few}
use Rattle.pair_stream.proofs.DpsubSteps.{one_on}
use Rattle.enum_dpsize.specs.Dpsize.{start_at}
use Rattle.enum_dpsize.specs.declared.cursor.Cursor.{Cursor}
use Rattle.enum_dpsize.specs.DpsizeLeft.{NextSizes, is_same}
use Rattle.enum_dpsize.specs.Dpsva.{row_probes, rows_probes, sized_probes, dpsva_probes}
use Rattle.enum_dpsize.specs.DpsvaLeft.{rows_probes_from, probes_left, probes_at}
use Rattle.enum_dpsize.proofs.PartLists.{part_few}

-- ---- rows

rows_next : (ys : List ℕ) (same : Bool) (xs : List ℕ) (i : ℕ) → i < length xs → rows_probes ys same xs i ≡ row_probes ys same xs i + rows_probes ys same xs (suc i)
unfolding rows_probes
rows_next ys same xs i l =
    ap (λ (n : ℕ). sum_by (row_probes ys same xs) (range_with_len i n)) count
    ∙ sum_by-cons (row_probes ys same xs) i (range_with_len (i + 1) (length xs - suc i))
    ∙ ap (λ (n : ℕ). row_probes ys same xs i + sum_by (row_probes ys same xs) (range_with_len n (length xs - suc i))) (add-one i)
  where
    count : length xs - i ≡ suc (length xs - suc i)
    count = omega arith

rows_none : (ys : List ℕ) (same : Bool) (xs : List ℕ) (i : ℕ) → length xs ≤ i → rows_probes ys same xs i ≡ 0
unfolding rows_probes
rows_none ys same xs i l = ap (λ (n : ℕ). sum_by (row_probes ys same xs) (range_with_len i n)) count
  where
    count : length xs - i ≡ 0
    count = omega arith

rows_at : (ys : List ℕ) (same : Bool) (xs : List ℕ) (i j : ℕ) → i < length xs → rows_probes_from ys same xs i j ≡ probes_from ys j (slice_index xs i) + rows_probes ys same xs (suc i)
unfolding rows_probes_from
rows_at ys same xs i j l = cond-true (nat_lt i (length xs)) (probes_from ys j (slice_index xs i) + rows_probes ys same xs (suc i)) 0 (lt-ltb _ _ l)

pub rows_past : (ys : List ℕ) (same : Bool) (xs : List ℕ) (i j : ℕ) → length xs ≤ i → rows_probes_from ys same xs i j ≡ 0
unfolding rows_probes_from
rows_past ys same xs i j l = cond-false (nat_lt i (length xs)) (probes_from ys j (slice_index xs i) + rows_probes ys same xs (suc i)) 0 (le-ltb _ _ l)

-- a row begins
pub rows_begin : (ys : List ℕ) (same : Bool) (xs : List ℕ) (i : ℕ) → rows_probes_from ys same xs i (start_at same i) ≡ rows_probes ys same xs i
unfolding row_probes
rows_begin ys same xs i =
    elim (cases_lt i (length xs)) [
      | inl l ↦ rows_at ys same xs i (start_at same i) l ∙ sym (rows_next ys same xs i l)
      | inr l ↦ rows_past ys same xs i (start_at same i) l ∙ sym (rows_none ys same xs i l)
    ]

-- the probes of the row of x, and of those after it
pub rows_here : (ys : List ℕ) (same : Bool) (xs : List ℕ) (i j x : ℕ) → i < length xs → x ≡ get_or xs i x → rows_probes_from ys same xs i j ≡ probes_from ys j x + rows_probes ys same xs (suc i)
rows_here ys same xs i j x l e =
    rows_at ys same xs i j l ∙ ap (λ (y : ℕ). probes_from ys j y + rows_probes ys same xs (suc i)) (get_or_default xs i 0 x l ∙ sym e)

-- one row is over
pub rows_on : (ys : List ℕ) (same : Bool) (xs : List ℕ) (i j n x : ℕ) → i < length xs → x ≡ get_or xs i x → n ≡ start_at same (i + 1) → rows_probes_from ys same xs i j ≡ probes_from ys j x + rows_probes_from ys same xs (i + 1) n
rows_on ys same xs i j n x l e s =
    rows_here ys same xs i j x l e
    ∙ ap (λ (k : ℕ). probes_from ys j x + k) (ap (rows_probes ys same xs) (sym (add-one i)) ∙ sym (ap (rows_probes_from ys same xs (i + 1)) s ∙ rows_begin ys same xs (i + 1)))

-- ---- sizes

sum_first : (f : ℕ → ℕ) (a n : ℕ) → sum_by f (range_with_len a (suc n)) ≡ f a + sum_by f (range_with_len (suc a) n)
sum_first f a n = sum_by-cons f a (range_with_len (a + 1) n) ∙ ap (λ (k : ℕ). f a + sum_by f (range_with_len k n)) next
  where
    next : a + 1 ≡ suc a
    next = omega arith

sum_length : (f : ℕ → ℕ) (a n m : ℕ) → n ≡ m → sum_by f (range_with_len a n) ≡ sum_by f (range_with_len a m)
sum_length f a n m e = ap (λ (k : ℕ). sum_by f (range_with_len a k)) e

abbrev of_size : JoinGraph → ℕ → ℕ
of_size g s = sum_by (λ k. sized_probes g k (s - k)) (range_with_len 1 (s / 2))

abbrev sizes_after : JoinGraph → ℕ → ℕ
sizes_after g s = sum_by (of_size g) (range_with_len (suc s) (g.n - s))

abbrev smalls_after : JoinGraph → ℕ → ℕ → ℕ
smalls_after g s k = sum_by (λ k. sized_probes g k (s - k)) (range_with_len (suc k) (s / 2 - k))

sized_rows : (g : JoinGraph) (k l : ℕ) → sized_probes g k l ≡ rows_probes_from (part g l) (nat_eq k l) (part g k) 0 (start_at (nat_eq k l) 0)
unfolding sized_probes
sized_rows g k l = sym (rows_begin (part g l) (nat_eq k l) (part g k) 0)

smalls_next : (g : JoinGraph) (s k : ℕ) → k * 2 + 2 ≤ s → smalls_after g s k ≡ sized_probes g (suc k) (s - suc k) + smalls_after g s (suc k)
smalls_next g s k l =
    sum_length (λ k. sized_probes g k (s - k)) (suc k) (s / 2 - k) (suc (s / 2 - suc k)) (omega arith)
    ∙ sum_first (λ k. sized_probes g k (s - k)) (suc k) (s / 2 - suc k)

smalls_none : (g : JoinGraph) (s k : ℕ) → s < k * 2 + 2 → smalls_after g s k ≡ 0
smalls_none g s k l = sum_length (λ k. sized_probes g k (s - k)) (suc k) (s / 2 - k) 0 (omega arith)

size_first : (g : JoinGraph) (s : ℕ) → 2 ≤ s → of_size g s ≡ sized_probes g 1 (s - 1) + smalls_after g s 1
size_first g s l =
    sum_length (λ k. sized_probes g k (s - k)) 1 (s / 2) (suc (s / 2 - 1)) (omega arith)
    ∙ sum_first (λ k. sized_probes g k (s - k)) 1 (s / 2 - 1)

sizes_next : (g : JoinGraph) (s : ℕ) → s < g.n → sizes_after g s ≡ of_size g (suc s) + sizes_after g (suc s)
sizes_next g s l =
    sum_length (of_size g) (suc s) (g.n - s) (suc (g.n - suc s)) (omega arith) ∙ sum_first (of_size g) (suc s) (g.n - suc s)

sizes_none : (g : JoinGraph) (s : ℕ) → g.n ≤ s → sizes_after g s ≡ 0
sizes_none g s l = sum_length (of_size g) (suc s) (g.n - s) 0 (omega arith)

abbrev rows_left : JoinGraph → ℕ → ℕ → ℕ → ℕ → ℕ
rows_left g s k i j = rows_probes_from (part g (s - k)) (nat_eq k (s - k)) (part g k) i j

rows_over : (g : JoinGraph) (s k i j : ℕ) → length (part g k) ≤ i → rows_left g s k i j ≡ 0
rows_over g s k i j l = rows_past (part g (s - k)) (nat_eq k (s - k)) (part g k) i j l

left_small : (g : JoinGraph) (s k i j : ℕ) → length (part g k) ≤ i → k * 2 + 2 ≤ s → probes_left g s k i j ≡ probes_left g s (suc k) 0 (start_at (nat_eq (suc k) (s - suc k)) 0)
unfolding probes_left
left_small g s k i j o l =
    omega (arith, rows_over g s k i j o, smalls_next g s k l, sized_rows g (suc k) (s - suc k))

left_size : (g : JoinGraph) (s k i j : ℕ) → length (part g k) ≤ i → s < k * 2 + 2 → s < g.n → 1 ≤ s → probes_left g s k i j ≡ probes_left g (suc s) 1 0 (start_at (nat_eq 1 (suc s - 1)) 0)
unfolding probes_left
left_size g s k i j o l m some =
    omega (arith, rows_over g s k i j o, smalls_none g s k l, sizes_next g s m, size_first g (suc s) (omega arith), sized_rows g 1 (suc s - 1))

pub probes_end : (g : JoinGraph) (s k i j : ℕ) → length (part g k) ≤ i → s < k * 2 + 2 → g.n ≤ s → probes_left g s k i j ≡ 0
unfolding probes_left
probes_end g s k i j o l m = omega (arith, rows_over g s k i j o, smalls_none g s k l, sizes_none g s m)

-- the start

pub probes_start : (g : JoinGraph) (j : ℕ) → 2 ≤ g.n → j ≡ 1 → probes_left g 2 1 0 j ≡ dpsva_probes g
unfolding probes_left dpsva_probes
probes_start g j l e =
    omega (
      arith,
      ap (rows_left g 2 1 0) e,
      sized_rows g 1 1,
      size_first g 2 (omega arith),
      sum_length (of_size g) 2 (g.n - 1) (suc (g.n - 2)) (omega arith) ∙ sum_first (of_size g) 2 (g.n - 2),
    )

pub probes_start_one : (g : JoinGraph) (i j : ℕ) → g.n ≡ 1 → length (part g 1) ≤ i → probes_left g 2 1 i j ≡ dpsva_probes g
unfolding dpsva_probes
probes_start_one g i j e l =
    probes_end g 2 1 i j l (omega arith) (omega arith) ∙ sym (sum_length (of_size g) 2 (g.n - 1) 0 (omega arith))

-- the sizes have no row left
module _ (g : JoinGraph) (c : Cursor) (o : length (part g c.small) ≤ c.row) where
  pub probes_end_here : c.size < c.small * 2 + 2 → g.n ≤ c.size → probes_at g c ≡ 0
  probes_end_here l m = probes_end g c.size c.small c.row c.next o l m

  pub probes_next : (n s k j : ℕ) → n ≡ g.n → 1 ≤ c.small → c.small * 2 ≤ c.size → NextSizes c.size c.small n (Some (s, k)) → j ≡ start_at (nat_eq k (s - k)) 0 → probes_left g s k 0 j ≡ probes_at g c
  probes_next n s k j en small half next ej =
      sym (elim next [
        | inl h ↦
            left_small g c.size c.small c.row c.next o h.0
            ∙ ap (λ (x : ℕ). probes_left g x (suc c.small) 0 (start_at (nat_eq (suc c.small) (x - suc c.small)) 0)) (sym h.1)
            ∙ ap (λ (x : ℕ). probes_left g s x 0 (start_at (nat_eq x (s - x)) 0)) (one_on _ _ h.2)
            ∙ ap (probes_left g s k 0) (sym ej)
        | inr h ↦
            left_size g c.size c.small c.row c.next o h.0 (omega (arith, h.1, en)) (omega (arith, small, half))
            ∙ ap (λ (x : ℕ). probes_left g x 1 0 (start_at (nat_eq 1 (x - 1)) 0)) (one_on _ _ h.2)
            ∙ ap (λ (x : ℕ). probes_left g s x 0 (start_at (nat_eq x (s - x)) 0)) (sym h.3)
            ∙ ap (probes_left g s k 0) (sym ej)
      ])

-- the row at hand
module _ (g : JoinGraph) (c : Cursor) (xs ys : List ℕ) (x : ℕ) (ex : xs ≡ part g c.small) (ey : ys ≡ part g (c.size - c.small)) (l : c.row < length xs) (e : x ≡ get_or xs c.row x) where
  -- its probes, and those after it
  abbrev after : ℕ
  after = probes_left g c.size c.small (c.row + 1) (start_at (is_same c) (c.row + 1))

  pub probes_from_place : (j : ℕ) → probes_left g c.size c.small c.row j ≡ probes_from ys j x + after
  unfolding probes_left
  probes_from_place j =
      omega (
        arith,
        subst (λ (zs : List ℕ). rows_probes_from (part g (c.size - c.small)) (is_same c) zs c.row j ≡ probes_from ys j x + rows_probes_from (part g (c.size - c.small)) (is_same c) zs (c.row + 1) (start_at (is_same c) (c.row + 1))) ex
            (subst (λ (zs : List ℕ). rows_probes_from zs (is_same c) xs c.row j ≡ probes_from ys j x + rows_probes_from zs (is_same c) xs (c.row + 1) (start_at (is_same c) (c.row + 1))) ey
            (rows_on ys (is_same c) xs c.row j (start_at (is_same c) (c.row + 1)) x l e refl)),
      )

-- d is c in the next row
pub row_probes_left : (g : JoinGraph) (c d : Cursor) (j : ℕ) → d.size ≡ c.size → d.small ≡ c.small → d.row ≡ c.row + 1 → d.next ≡ j → probes_left g c.size c.small (c.row + 1) j ≡ probes_at g d
row_probes_left g c d j size small row next =
    ap (λ (x : ℕ). probes_left g x c.small (c.row + 1) j) (sym size)
    ∙ ap (λ (x : ℕ). probes_left g d.size x (c.row + 1) j) (sym small)
    ∙ ap (λ (x : ℕ). probes_left g d.size d.small x j) (sym row)
    ∙ ap (probes_left g d.size d.small d.row) (sym next)

-- ---- they are few

row_few : (ys : List ℕ) (same : Bool) (xs : List ℕ) (i : ℕ) → row_probes ys same xs i ≤ length ys
unfolding row_probes
row_few ys same xs i =
    omega (arith, probes_few ys (start_at same i) (slice_index xs i) (length ys - start_at same i))

sized_few : (g : JoinGraph) (k l : ℕ) → IsGraph g → sized_probes g k l ≤ 2 ^ N_MAX * 2 ^ N_MAX
unfolding sized_probes rows_probes
sized_few g k l ok =
    omega (
      arith,
      sum_by-le (row_probes (part g l) (nat_eq k l) (part g k)) (length (part g l)) (range_with_len 0 (length (part g k) - 0)) (λ i d h. row_few (part g l) (nat_eq k l) (part g k) (get_or (range_with_len 0 (length (part g k) - 0)) i d)),
      mul-le (length (range_with_len 0 (length (part g k) - 0))) (length (part g l)) (2 ^ N_MAX) (2 ^ N_MAX) (omega (arith, length-range_with_len 0 (length (part g k) - 0), part_few g k ok)) (part_few g l ok),
    )

size_few : (g : JoinGraph) (s : ℕ) → IsGraph g → s ≤ N_MAX → of_size g s ≤ N_MAX * (2 ^ N_MAX * 2 ^ N_MAX)
size_few g s ok l =
    omega (
      arith,
      sum_by-le (λ k. sized_probes g k (s - k)) (2 ^ N_MAX * 2 ^ N_MAX) (range_with_len 1 (s / 2)) (λ i d h. sized_few g (get_or (range_with_len 1 (s / 2)) i d) (s - get_or (range_with_len 1 (s / 2)) i d) ok),
      length-range_with_len 1 (s / 2),
    )

pub probes_bound : (g : JoinGraph) → IsGraph g → dpsva_probes g < 2 ^ 64
unfolding dpsva_probes
probes_bound g ok =
    omega (
      arith,
      sum_by-le (of_size g) (N_MAX * (2 ^ N_MAX * 2 ^ N_MAX)) (range_with_len 2 (g.n - 1))
          (all_by (λ s. of_size g s ≤ N_MAX * (2 ^ N_MAX * 2 ^ N_MAX)) (range_with_len 2 (g.n - 1)) (λ s c. size_few g s ok (omega (arith, (contains_from_range 2 (g.n - 1) s c).1, ok.few)))),
      length-range_with_len 2 (g.n - 1),
      ok.few,
    )
