-- One step of the enumeration by subsets.
use Rattle.std.proofs.Common.{◌≡◌, ◌↔◌, ℕ, suc, ◌+◌, ◌-◌, ◌*◌, ◌^◌, ◌<◌, ◌≤◌, arith, sym, ◌∙◌, ap, Bool, true, false, ◌&&◌, List, [], ◌∷◌, ◌++◌, map, nat_eq}
use Rattle.std.specs.List.{filter, flat_map, range_with_len}
use Rattle.std.specs.Cmp.{both_ways as test_same}
use Rattle.std.proofs.lemmas.Bool.{cond-true, cond-false, eqb-true, and_parts, false_from_ne_true}
use Rattle.dpe_base.specs.declared.TheConstants.{N_MAX}
use Rattle.dpe_base.specs.declared.pair.Pair.{Pair}
use Rattle.dpe_base.specs.Sets.{Has, Within, IsLeast, IsNextSubset, member, union, minus, single, full, least}
use Rattle.dpe_base.proofs.SetLaws.{sets, member-same, has_some, full_limit, minus_left, least_same}
use Rattle.dpe_base.proofs.NextSubset.{within_le}
use Rattle.join_graph.specs.Graphs.{JoinGraph, IsGraph, Connected, pair_of}
use Rattle.pair_stream.specs.Subsets.{subsets_after, IsNextWithLeast}
use Rattle.pair_stream.specs.Connectivity.{is_connected}
use Rattle.pair_stream.specs.Orders.{Ordered, Complete}
use Rattle.pair_stream.specs.Dpsub.{is_split, splits_of, seq_dpsub}
use Rattle.pair_stream.specs.DpsubLeft.{dpsub_left}
use Rattle.pair_stream.proofs.SubsetLaws.{subsets_skip, subsets_last, least_is}
use Rattle.pair_stream.proofs.NextWithLeast.{next_with_least}
use Rattle.pair_stream.proofs.ConnectivityLaws.{is_connected_true}
use Rattle.pair_stream.proofs.DpsubLaw.{is_split_true, dpsub_complete, dpsub_ordered}

-- ---- the list left

-- the list left, where those first sides of s are left
abbrev left_by : JoinGraph → ℕ → List ℕ → List Pair
left_by g s firsts = map (λ a. pair_of a (minus s a)) firsts ++ flat_map (splits_of g) (range_with_len (suc s) (full g.n - s))

pub left_start : (g : JoinGraph) → dpsub_left g 0 0 ≡ seq_dpsub g
unfolding dpsub_left seq_dpsub
left_start g =
    ap (λ xs. left_by g 0 (filter (is_split g 0) xs)) (subsets_last 0)
    ∙ ap (λ (k : ℕ). flat_map (splits_of g) (range_with_len 1 k)) same
  where
    same : full g.n - 0 ≡ full g.n
    same = omega arith

split_has_least : (g : JoinGraph) (s a : ℕ) → is_split g s a ≡ true → Has a (least s)
unfolding is_split
split_has_least g s a t = eqb-true _ _ (and_parts (nat_eq (member a (least s)) 1) (is_connected g a && is_connected g (minus s a)) t).0

-- no split is passed over
left_first : (g : JoinGraph) (s a t : ℕ) → IsNextWithLeast a s t → dpsub_left g s a ≡ left_by g s (filter (is_split g s) (t ∷ subsets_after t s))
unfolding dpsub_left
left_first g s a t n =
    ap (left_by g s)
    (subsets_skip (is_split g s) a s t n.within n.greater
    (λ u w l m. false_from_ne_true (is_split g s u) (λ e. omega (arith, n.next u w (split_has_least g s u e) l))))

-- the next split is a pair of the list
pub left_pair : (g : JoinGraph) (s a t : ℕ) → IsNextWithLeast a s t → is_split g s t ≡ true → dpsub_left g s a ≡ pair_of t (minus s t) ∷ dpsub_left g s t
unfolding dpsub_left
left_pair g s a t n e =
    left_first g s a t n
    ∙ ap (left_by g s) (cond-true (is_split g s t) (t ∷ filter (is_split g s) (subsets_after t s)) (filter (is_split g s) (subsets_after t s)) e)

-- the next subset is no split
pub left_same : (g : JoinGraph) (s a t : ℕ) → IsNextWithLeast a s t → is_split g s t ≡ false → dpsub_left g s a ≡ dpsub_left g s t
unfolding dpsub_left
left_same g s a t n e =
    left_first g s a t n
    ∙ ap (left_by g s) (cond-false (is_split g s t) (t ∷ filter (is_split g s) (subsets_after t s)) (filter (is_split g s) (subsets_after t s)) e)

left_over : (g : JoinGraph) (s : ℕ) → dpsub_left g s s ≡ flat_map (splits_of g) (range_with_len (suc s) (full g.n - s))
unfolding dpsub_left
left_over g s = ap (λ xs. left_by g s (filter (is_split g s) xs)) (subsets_last s)

-- nothing is left behind the last set
pub left_none : (g : JoinGraph) (s : ℕ) → full g.n ≤ s → dpsub_left g s s ≡ []
left_none g s l = left_over g s ∙ ap (λ (k : ℕ). flat_map (splits_of g) (range_with_len (suc s) k)) none
  where
    none : full g.n - s ≡ 0
    none = omega arith

left_more : (g : JoinGraph) (s : ℕ) → s < full g.n → dpsub_left g s s ≡ splits_of g (suc s) ++ flat_map (splits_of g) (range_with_len (suc (suc s)) (full g.n - suc s))
left_more g s l =
    left_over g s
    ∙ ap (λ (k : ℕ). flat_map (splits_of g) (range_with_len (suc s) k)) more
    ∙ ap (λ (k : ℕ). splits_of g (suc s) ++ flat_map (splits_of g) (range_with_len k (full g.n - suc s))) step
  where
    more : full g.n - s ≡ suc (full g.n - suc s)
    more = omega arith

    step : suc s + 1 ≡ suc (suc s)
    step = omega arith

pub one_on : (s t : ℕ) → t ≡ s + 1 → suc s ≡ t
one_on s t e = omega arith

-- the next set is connected
pub left_enter : (g : JoinGraph) (s t : ℕ) → IsGraph g → s < full g.n → t ≡ s + 1 → Connected g t → dpsub_left g s s ≡ dpsub_left g t 0
unfolding dpsub_left splits_of
left_enter g s t ok l e c =
    left_more g s l
    ∙ ap (λ k. splits_of g k ++ flat_map (splits_of g) (range_with_len (suc k) (full g.n - k))) (one_on s t e)
    ∙ ap (λ xs. xs ++ flat_map (splits_of g) (range_with_len (suc t) (full g.n - t)))
    (cond-true (is_connected g t) (map (λ a. pair_of a (minus t a)) (filter (is_split g t) (subsets_after 0 t))) [] ((is_connected_true g t ok).1 c))

-- the next set is not connected
pub left_pass : (g : JoinGraph) (s t : ℕ) → IsGraph g → s < full g.n → t ≡ s + 1 → (Connected g t → ⊥) → dpsub_left g s s ≡ dpsub_left g t t
unfolding splits_of
left_pass g s t ok l e ne =
    left_more g s l
    ∙ ap (λ k. splits_of g k ++ flat_map (splits_of g) (range_with_len (suc k) (full g.n - k))) (one_on s t e)
    ∙ ap (λ xs. xs ++ flat_map (splits_of g) (range_with_len (suc t) (full g.n - t)))
    (cond-false (is_connected g t) (map (λ a. pair_of a (minus t a)) (filter (is_split g t) (subsets_after 0 t))) [] (false_from_ne_true (is_connected g t) (λ h. ne ((is_connected_true g t ok).0 h))))
    ∙ sym (left_over g t)

-- ---- the test of a split

pub not_second : (g : JoinGraph) (s a : ℕ) → IsGraph g → (Connected g (minus s a) → ⊥) → is_split g s a ≡ false
not_second g s a ok ne = false_from_ne_true (is_split g s a) (λ t. ne ((is_split_true g ok s a).0 t).2)

pub by_first : (g : JoinGraph) (s a : ℕ) (b : Bool) → IsGraph g → Has a (least s) → Connected g (minus s a) → (b ≡ true) ↔ Connected g a → b ≡ is_split g s a
by_first g s a b ok h c both =
    test_same b (is_split g s a) (λ t. (is_split_true g ok s a).1 (h, both.0 t, c)) (λ t. both.1 ((is_split_true g ok s a).0 t).1)

pub rest_in : (s a n : ℕ) → Within s (full n) → Within (minus s a) (full n)
rest_in s a n w r h = w r (minus_left s a r h)

-- ---- the start

pub left_at : (g : JoinGraph) (s a : ℕ) → s ≡ 0 → a ≡ 0 → dpsub_left g s a ≡ seq_dpsub g
left_at g s a es ea = ap (λ (k : ℕ). dpsub_left g k a) es ∙ ap (dpsub_left g 0) ea ∙ left_start g

pub dpsub_laws : (g : JoinGraph) → IsGraph g → Complete g (seq_dpsub g) × Ordered (seq_dpsub g)
dpsub_laws g ok = (dpsub_complete g ok, dpsub_ordered g ok)

-- ---- what the code of a step needs

-- a set with a next subset is not empty
pub some_after : (a s t : ℕ) → IsNextSubset a s t → s ≡ 0 → ⊥
some_after a s t n e = omega (arith, n.greater, within_le t s n.within)

pub least_has_room : (s l : ℕ) → Within s (full N_MAX) → IsLeast s l → l < N_MAX
least_has_room s l w m = full_limit N_MAX l (w l m.0)

pub next_by_code : (s whole n l low t : ℕ) → Within whole (full N_MAX) → IsNextSubset s whole n → IsLeast whole l → low ≡ single l → t ≡ union n low → IsNextWithLeast s whole t
next_by_code s whole n l low t w x m el et =
    next_with_least s whole n l t x m (least_same whole (least whole) l (least_is whole N_MAX w (omega arith) (has_some whole l m.0)) m) (et ∙ ap (union n) el)

-- the measure: sets left, then subsets left
pub fewer_subsets : (f s a t : ℕ) → IsNextWithLeast a s t → (f - s) * 2 ^ 32 + (s - t) < (f - s) * 2 ^ 32 + (s - a)
fewer_subsets f s a t n = omega (arith, n.greater, within_le t s n.within)

pub split_taken : (g : JoinGraph) (left : List Pair) (s a t b : ℕ) → left ≡ dpsub_left g s a → IsNextWithLeast a s t → true ≡ is_split g s t → b ≡ minus s t → left ≡ pair_of t b ∷ dpsub_left g s t
split_taken g left s a t b e n h eb = e ∙ left_pair g s a t n (sym h) ∙ ap (λ (k : ℕ). pair_of t k ∷ dpsub_left g s t) (sym eb)

pub none_left : (g : JoinGraph) (left : List Pair) (s a : ℕ) → left ≡ dpsub_left g s a → a ≡ s → full g.n ≤ s → (left ≡ []) × (dpsub_left g s a ≡ [])
none_left g left s a e same l = (e ∙ none, none)
  where
    none : dpsub_left g s a ≡ []
    none = ap (dpsub_left g s) same ∙ left_none g s l

-- the next set, entered at no subset or at its last
pub entered : (g : JoinGraph) (left : List Pair) (s a t b : ℕ) → IsGraph g → left ≡ dpsub_left g s a → a ≡ s → s < full g.n → t ≡ s + 1 → b ≡ 0 → Connected g t → left ≡ dpsub_left g t b
entered g left s a t b ok e same l et eb c = e ∙ ap (dpsub_left g s) same ∙ left_enter g s t ok l et c ∙ ap (dpsub_left g t) (sym eb)

pub passed : (g : JoinGraph) (left : List Pair) (s a t b : ℕ) → IsGraph g → left ≡ dpsub_left g s a → a ≡ s → s < full g.n → t ≡ s + 1 → b ≡ t → (Connected g t → ⊥) → left ≡ dpsub_left g t b
passed g left s a t b ok e same l et eb ne = e ∙ ap (dpsub_left g s) same ∙ left_pass g s t ok l et ne ∙ ap (dpsub_left g t) (sym eb)

pub within_none : (a s : ℕ) → a ≡ 0 → Within a s
within_none a s e r h = grind (arith, sets, member-same e r)

pub within_all : (a s : ℕ) → a ≡ s → Within a s
within_all a s e r h = grind (arith, sets, member-same e r)
