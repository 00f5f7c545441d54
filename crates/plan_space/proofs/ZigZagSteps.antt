-- One step of the enumeration of zig-zag pairs.
use Rattle.std.proofs.Common.{◌≡◌, ◌≢◌, ◌↔◌, ℕ, suc, ◌+◌, ◌-◌, ◌<◌, ◌≤◌, ◌⊎◌, inl, inr, arith, sym, ◌∙◌, ap, subst, Bool, true, false, List, [], ◌∷◌, ◌++◌, map}
use Rattle.std.specs.List.{filter, flat_map, range_with_len}
use Rattle.std.specs.Cmp.{both_ways as test_same}
use Rattle.std.proofs.lemmas.Bool.{cond-true, cond-false, false_from_ne_true}
use Rattle.dpe_base.specs.declared.TheConstants.{N_MAX}
use Rattle.dpe_base.specs.declared.pair.Pair.{Pair}
use Rattle.dpe_base.specs.Sets.{Has, Within, IsLeast, minus, single, full, least, size}
use Rattle.dpe_base.proofs.SetLaws.{has_some, least_same}
use Rattle.join_graph.specs.Graphs.{JoinGraph, IsGraph, Connected, pair_of}
use Rattle.pair_stream.specs.Connectivity.{is_connected}
use Rattle.pair_stream.specs.Orders.{Ordered}
use Rattle.pair_stream.proofs.SubsetLaws.{least_is}
use Rattle.pair_stream.proofs.ConnectivityLaws.{is_connected_true}
use Rattle.plan_space.specs.Thin.{IsThinList}
use Rattle.plan_space.specs.ZigZag.{can_be_taken, taken_from, zig_zag_splits, seq_zig_zag}
use Rattle.plan_space.specs.ZigZagLeft.{zig_zag_left}
use Rattle.plan_space.proofs.ZigZagLaw.{can_be_taken_true, taken_least, taken_other, zig_zag_thin, zig_zag_ordered}

-- ---- the list left

-- the list left, where those relations of s are left
abbrev left_by : JoinGraph → ℕ → List ℕ → List Pair
left_by g s relations = map (taken_from s) (filter (can_be_taken g s) relations) ++ flat_map (zig_zag_splits g) (range_with_len (suc s) (full g.n - s))

left_at : (g : JoinGraph) (s r : ℕ) (relations : List ℕ) → range_with_len r (g.n - r) ≡ relations → zig_zag_left g s r ≡ left_by g s relations
unfolding zig_zag_left
left_at g s r relations e = ap (left_by g s) e

left_over : (g : JoinGraph) (s r : ℕ) → g.n ≤ r → zig_zag_left g s r ≡ flat_map (zig_zag_splits g) (range_with_len (suc s) (full g.n - s))
left_over g s r l = left_at g s r [] (ap (λ (k : ℕ). range_with_len r k) none)
  where
    none : g.n - r ≡ 0
    none = omega arith

pub left_start : (g : JoinGraph) (s r : ℕ) → s ≡ 0 → r ≡ g.n → zig_zag_left g s r ≡ seq_zig_zag g
unfolding seq_zig_zag
left_start g s r es er =
    left_over g s r (omega arith)
    ∙ ap (λ (k : ℕ). flat_map (zig_zag_splits g) (range_with_len (suc k) (full g.n - k))) es
    ∙ ap (λ (k : ℕ). flat_map (zig_zag_splits g) (range_with_len 1 k)) same
  where
    same : full g.n - 0 ≡ full g.n
    same = omega arith

left_first : (g : JoinGraph) (s r : ℕ) → r < g.n → zig_zag_left g s r ≡ left_by g s (r ∷ range_with_len (r + 1) (g.n - (r + 1)))
left_first g s r l = left_at g s r (r ∷ range_with_len (r + 1) (g.n - (r + 1))) (ap (λ (k : ℕ). range_with_len r k) more)
  where
    more : g.n - r ≡ suc (g.n - (r + 1))
    more = omega arith

-- the relation can be taken
left_pair : (g : JoinGraph) (s r : ℕ) → r < g.n → can_be_taken g s r ≡ true → zig_zag_left g s r ≡ taken_from s r ∷ zig_zag_left g s (r + 1)
unfolding zig_zag_left
left_pair g s r l t =
    left_first g s r l
    ∙ ap (λ rs. map (taken_from s) rs ++ flat_map (zig_zag_splits g) (range_with_len (suc s) (full g.n - s)))
    (cond-true (can_be_taken g s r) (r ∷ filter (can_be_taken g s) (range_with_len (r + 1) (g.n - (r + 1)))) (filter (can_be_taken g s) (range_with_len (r + 1) (g.n - (r + 1)))) t)

-- and it can't
left_same : (g : JoinGraph) (s r : ℕ) → r < g.n → can_be_taken g s r ≡ false → zig_zag_left g s r ≡ zig_zag_left g s (r + 1)
unfolding zig_zag_left
left_same g s r l f =
    left_first g s r l
    ∙ ap (λ rs. map (taken_from s) rs ++ flat_map (zig_zag_splits g) (range_with_len (suc s) (full g.n - s)))
    (cond-false (can_be_taken g s r) (r ∷ filter (can_be_taken g s) (range_with_len (r + 1) (g.n - (r + 1)))) (filter (can_be_taken g s) (range_with_len (r + 1) (g.n - (r + 1)))) f)

-- nothing is left behind the last set
left_none : (g : JoinGraph) (s r : ℕ) → g.n ≤ r → full g.n ≤ s → zig_zag_left g s r ≡ []
left_none g s r m l = left_over g s r m ∙ ap (λ (k : ℕ). flat_map (zig_zag_splits g) (range_with_len (suc s) k)) none
  where
    none : full g.n - s ≡ 0
    none = omega arith

left_more : (g : JoinGraph) (s r t : ℕ) → g.n ≤ r → s < full g.n → t ≡ s + 1 → zig_zag_left g s r ≡ zig_zag_splits g t ++ flat_map (zig_zag_splits g) (range_with_len (suc t) (full g.n - t))
left_more g s r t m l e =
    left_over g s r m
    ∙ ap (λ (k : ℕ). flat_map (zig_zag_splits g) (range_with_len (suc s) k)) more
    ∙ ap (λ (k : ℕ). zig_zag_splits g k ++ flat_map (zig_zag_splits g) (range_with_len (k + 1) (full g.n - t))) one
    ∙ ap (λ (k : ℕ). zig_zag_splits g t ++ flat_map (zig_zag_splits g) (range_with_len k (full g.n - t))) step
  where
    more : full g.n - s ≡ suc (full g.n - t)
    more = omega arith

    one : suc s ≡ t
    one = omega arith

    step : t + 1 ≡ suc t
    step = omega arith

-- the next set is connected
left_enter : (g : JoinGraph) (s r t : ℕ) → IsGraph g → g.n ≤ r → s < full g.n → t ≡ s + 1 → Connected g t → zig_zag_left g s r ≡ zig_zag_left g t 0
unfolding zig_zag_left zig_zag_splits
left_enter g s r t ok m l e c =
    left_more g s r t m l e
    ∙ ap (λ xs. xs ++ flat_map (zig_zag_splits g) (range_with_len (suc t) (full g.n - t)))
    (cond-true (is_connected g t) (map (taken_from t) (filter (can_be_taken g t) (range_with_len 0 g.n))) [] ((is_connected_true g t ok).1 c))
    ∙ ap (λ (k : ℕ). map (taken_from t) (filter (can_be_taken g t) (range_with_len 0 k)) ++ flat_map (zig_zag_splits g) (range_with_len (suc t) (full g.n - t))) whole
  where
    whole : g.n ≡ g.n - 0
    whole = omega arith

-- the next set is not connected
left_pass : (g : JoinGraph) (s r t : ℕ) → IsGraph g → g.n ≤ r → s < full g.n → t ≡ s + 1 → (Connected g t → ⊥) → zig_zag_left g s r ≡ zig_zag_left g t g.n
unfolding zig_zag_splits
left_pass g s r t ok m l e ne =
    left_more g s r t m l e
    ∙ ap (λ xs. xs ++ flat_map (zig_zag_splits g) (range_with_len (suc t) (full g.n - t)))
    (cond-false (is_connected g t) (map (taken_from t) (filter (can_be_taken g t) (range_with_len 0 g.n))) [] (false_from_ne_true (is_connected g t) (λ h. ne ((is_connected_true g t ok).0 h))))
    ∙ sym (left_over g t g.n (omega arith))

-- ---- what the code of a step needs

pub zig_zag_laws : (g : JoinGraph) → IsGraph g → IsThinList g 1 (seq_zig_zag g) × Ordered (seq_zig_zag g)
zig_zag_laws g ok = (zig_zag_thin g ok, zig_zag_ordered g ok)

pub pair_taken : (g : JoinGraph) (left : List Pair) (s r next : ℕ) (p : Pair) → left ≡ zig_zag_left g s r → r < g.n → next ≡ r + 1 → true ≡ can_be_taken g s r → p ≡ taken_from s r → left ≡ p ∷ zig_zag_left g s next
pair_taken g left s r next p e l en t ep =
    e ∙ left_pair g s r l (sym t) ∙ ap (λ x. x ∷ zig_zag_left g s (r + 1)) (sym ep) ∙ ap (λ (k : ℕ). p ∷ zig_zag_left g s k) (sym en)

pub pair_skipped : (g : JoinGraph) (left : List Pair) (s r next : ℕ) → left ≡ zig_zag_left g s r → r < g.n → next ≡ r + 1 → false ≡ can_be_taken g s r → left ≡ zig_zag_left g s next
pair_skipped g left s r next e l en f = e ∙ left_same g s r l (sym f) ∙ ap (zig_zag_left g s) (sym en)

pub none_left : (g : JoinGraph) (left : List Pair) (s r : ℕ) → left ≡ zig_zag_left g s r → g.n ≤ r → full g.n ≤ s → (left ≡ []) × (zig_zag_left g s r ≡ [])
none_left g left s r e m l = (e ∙ left_none g s r m l, left_none g s r m l)

pub entered : (g : JoinGraph) (left : List Pair) (s r t next : ℕ) → IsGraph g → left ≡ zig_zag_left g s r → g.n ≤ r → s < full g.n → t ≡ s + 1 → next ≡ 0 → Connected g t → left ≡ zig_zag_left g t next
entered g left s r t next ok e m l et en c = e ∙ left_enter g s r t ok m l et c ∙ ap (zig_zag_left g t) (sym en)

pub passed : (g : JoinGraph) (left : List Pair) (s r t next : ℕ) → IsGraph g → left ≡ zig_zag_left g s r → g.n ≤ r → s < full g.n → t ≡ s + 1 → next ≡ g.n → (Connected g t → ⊥) → left ≡ zig_zag_left g t next
passed g left s r t next ok e m l et en ne = e ∙ left_pass g s r t ok m l et ne ∙ ap (zig_zag_left g t) (sym en)

-- ---- the test of a relation

pub least_by_code : (s r l : ℕ) → Within s (full N_MAX) → Has s r → IsLeast s l → (r ≡ l) ↔ (r ≡ least s)
least_by_code s r l known has is =
    let same : least s ≡ l = least_same s (least s) l (least_is s N_MAX known (omega arith) (has_some s r has)) is in
    (λ e. e ∙ sym same, λ e. e ∙ same)

pub not_a_member : (g : JoinGraph) (s r : ℕ) → IsGraph g → (Has s r → ⊥) → can_be_taken g s r ≡ false
not_a_member g s r ok ne = false_from_ne_true (can_be_taken g s r) (λ t. ne ((can_be_taken_true g ok s r).0 t).0)

pub not_counted : (g : JoinGraph) (s r : ℕ) → IsGraph g → ((r ≡ least s) ⊎ (3 ≤ size s) → ⊥) → can_be_taken g s r ≡ false
not_counted g s r ok ne = false_from_ne_true (can_be_taken g s r) (λ t. ne ((can_be_taken_true g ok s r).0 t).1)

pub by_size : (s r k : ℕ) (b : Bool) → k ≡ size s → r ≢ least s → (b ≡ true) ↔ (3 ≤ k) → (b ≡ true) ↔ ((r ≡ least s) ⊎ (3 ≤ size s))
by_size s r k b e ne both = (
  λ t. inr (omega (arith, e, both.0 t)),
  λ h. elim h [ inl is ↦ absurd (ne is) | inr many ↦ both.1 (omega (arith, e, many)) ],
)

by_rest : (g : JoinGraph) (s r : ℕ) (b : Bool) → IsGraph g → Has s r → (r ≡ least s) ⊎ (3 ≤ size s) → (b ≡ true) ↔ Connected g (minus s (single r)) → b ≡ can_be_taken g s r
by_rest g s r b ok has counts both =
    test_same b (can_be_taken g s r) (λ t. (can_be_taken_true g ok s r).1 (has, counts, both.0 t)) (λ t. both.1 ((can_be_taken_true g ok s r).0 t).2)

pub by_code : (g : JoinGraph) (s r one rest : ℕ) (b : Bool) → IsGraph g → Has s r → (r ≡ least s) ⊎ (3 ≤ size s) → one ≡ single r → rest ≡ minus s one → (b ≡ true) ↔ Connected g rest → b ≡ can_be_taken g s r
by_code g s r one rest b ok has counts e f both =
    let is : rest ≡ minus s (single r) = f ∙ ap (minus s) e in
    by_rest g s r b ok has counts (λ t. subst (Connected g) is (both.0 t), λ c. both.1 (subst (Connected g) (sym is) c))

pub taken_has : (g : JoinGraph) (s r : ℕ) → IsGraph g → true ≡ can_be_taken g s r → Has s r
taken_has g s r ok t = ((can_be_taken_true g ok s r).0 (sym t)).0

pub first_taken : (s r one rest : ℕ) → one ≡ single r → rest ≡ minus s one → r ≡ least s → pair_of one rest ≡ taken_from s r
first_taken s r one rest e f is = ap (pair_of one) f ∙ ap (λ x. pair_of x (minus s x)) e ∙ sym (taken_least s r is)

pub second_taken : (s r one rest : ℕ) → one ≡ single r → rest ≡ minus s one → r ≢ least s → pair_of rest one ≡ taken_from s r
second_taken s r one rest e f ne = ap (λ x. pair_of x one) f ∙ ap (λ x. pair_of (minus s x) x) e ∙ sym (taken_other s r ne)
