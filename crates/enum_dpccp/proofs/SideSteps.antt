-- What one step takes from the second sides of a first side.
use Rattle.std.proofs.Common.{◌≡◌, ◌≢◌, ℕ, zero, suc, ◌+◌, ◌<◌, ◌≤◌, inl, inr, arith, refl, sym, ◌∙◌, ap, subst, Bool, cond, List, [], ◌∷◌, ◌++◌, nat_eq}
use Rattle.std.specs.List.{Contains, filter, flat_map}
use Rattle.std.proofs.lemmas.Bool.{cases_eq, cond-true, cond-false, eqb-true, eq-eqb, ne_eqb}
use Rattle.dpe_base.specs.declared.TheConstants.{N_MAX}
use Rattle.dpe_base.specs.Sets.{Has, Within, IsLeast, member, union, inter, minus, single, full, least}
use Rattle.dpe_base.proofs.SetLaws.{sets, same_set, empty_has, single_has, single_one, full_limit, union_right, minus_left, minus_right}
use Rattle.join_graph.specs.Graphs.{JoinGraph, IsGraph, Connected}
use Rattle.join_graph.proofs.GraphLaws.{known_relation}
use Rattle.pair_stream.specs.Subsets.{descending}
use Rattle.dpe_base.proofs.Members.{contains_head, contains_tail}
use Rattle.pair_stream.proofs.Lists.{passes_from_filter}
use Rattle.pair_stream.proofs.SubsetLaws.{descending_has}
use Rattle.pair_stream.proofs.ConnectivityLaws.{connected_least}
use Rattle.connected_sets.specs.Lists.{grown_from, all_extensions, neighbours_outside}
use Rattle.enum_dpccp.specs.Dpccp.{excluded, second_sides_from, second_sides}
use Rattle.connected_sets.specs.Greatest.{IsGreatest}
use Rattle.connected_sets.proofs.Depth.{flat_map_agree, outside_in_graph}

-- ---- what a first side excludes

pub least_room : (g : JoinGraph) (a r : ℕ) → IsGraph g → Connected g a → IsLeast a r → r < N_MAX
least_room g a r ok c l = omega (arith, known_relation g a r c l.0, ok.few)

pub excluded_by : (g : JoinGraph) (a r f u : ℕ) → IsGraph g → Connected g a → IsLeast a r → f ≡ full (r + 1) → u ≡ union f a → u ≡ excluded a
excluded_by g a r f u ok c l ef eu = eu ∙ ap (λ (k : ℕ). union k a) (ef ∙ ap full same)
  where
    same : r + 1 ≡ suc (least a)
    same = omega (arith, l.1 (least a) (connected_least g a ok c).0, (connected_least g a ok c).1 r l.0)

-- ---- second sides

filter_agree : (p q : ℕ → Bool) (xs : List ℕ) → ((x : ℕ) → Contains xs x → p x ≡ q x) → filter p xs ≡ filter q xs
filter_agree p q [] h = refl
filter_agree p q (x ∷ xs) h = at (p x) (q x) (h x (contains_head x xs)) (filter_agree p q xs (λ y c. h y (contains_tail x xs y c)))
  where
    at : (a b : Bool) → a ≡ b → filter p xs ≡ filter q xs → cond a (x ∷ filter p xs) (filter p xs) ≡ cond b (x ∷ filter q xs) (filter q xs)
    at a b e r = ap (λ (v : Bool). cond v (x ∷ filter p xs) (filter p xs)) e ∙ ap (λ ys. cond b (x ∷ ys) ys) r

abbrev in_set : ℕ → ℕ → Bool
in_set s i = nat_eq (member s i) 1

-- the greatest member comes first, and then the others
members_descending : (n s i : ℕ) → i < n → IsGreatest s i → filter (in_set s) (descending n) ≡ i ∷ filter (in_set (minus s (single i))) (descending n)
unfolding descending
members_descending zero s i l m = absurd (omega arith)
members_descending (suc n) s i l m =
    elim (cases_eq n i) [
      | inl e ↦
          cond-true (in_set s n) (n ∷ filter (in_set s) (descending n)) (filter (in_set s) (descending n)) (eq-eqb _ _ (subst (Has s) (sym e) m.0))
          ∙ ap (λ (k : ℕ). k ∷ filter (in_set s) (descending n)) e
          ∙ ap (λ xs. i ∷ xs) (filter_agree (in_set s) (in_set (minus s (single i))) (descending n) (λ k c. ap (λ (v : ℕ). nat_eq v 1) (other_same k (omega (arith, (descending_has n k).0 c)))))
          ∙ ap (λ xs. i ∷ xs) (sym (cond-false (in_set (minus s (single i)) n) (n ∷ filter (in_set (minus s (single i))) (descending n)) (filter (in_set (minus s (single i))) (descending n)) (ne_eqb _ _ (λ h. taken n e h))))
      | inr ne ↦
          cond-false (in_set s n) (n ∷ filter (in_set s) (descending n)) (filter (in_set s) (descending n)) (ne_eqb _ _ (λ (h : Has s n). omega (arith, m.1 n h, ne)))
          ∙ members_descending n s i (omega (arith, ne)) m
          ∙ ap (λ xs. i ∷ xs) (sym (cond-false (in_set (minus s (single i)) n) (n ∷ filter (in_set (minus s (single i))) (descending n)) (filter (in_set (minus s (single i))) (descending n)) (ne_eqb _ _ (λ (h : Has (minus s (single i)) n). omega (arith, m.1 n (minus_left s (single i) n h), ne)))))
    ]
  where
    other_same : (k : ℕ) → k ≢ i → member s k ≡ member (minus s (single i)) k
    other_same k ne = grind (arith, sets)

    taken : (k : ℕ) → k ≡ i → Has (minus s (single i)) k → ⊥
    taken k e h = grind (arith, sets)

-- the starts up to the greatest are all of them
all_starts : (starts i : ℕ) → IsGreatest starts i → inter starts (full (suc i)) ≡ starts
all_starts starts i m = same_set _ _ (λ r. at r (m.1 r))
  where
    at : (r : ℕ) → (Has starts r → r ≤ i) → member (inter starts (full (suc i))) r ≡ member starts r
    at r f = grind (arith, sets)

-- and up to a smaller one the greatest plays no part
same_starts : (starts i k : ℕ) → k < i → inter starts (full (suc k)) ≡ inter (minus starts (single i)) (full (suc k))
same_starts starts i k l = same_set _ _ (λ r. grind (arith, sets))

second_below : (g : JoinGraph) (x starts i : ℕ) → i < g.n → IsGreatest starts i → second_sides_from g x starts ≡ single i ∷ (all_extensions g (single i) (union x starts) ++ second_sides_from g x (minus starts (single i)))
unfolding second_sides_from grown_from
second_below g x starts i l m =
    ap (flat_map (λ k. grown_from g (union x (inter starts (full (suc k)))) k)) (members_descending g.n starts i l m)
    ∙ ap (λ (k : ℕ). (single i ∷ all_extensions g (single i) (union x k)) ++ flat_map (λ k. grown_from g (union x (inter starts (full (suc k)))) k) rest) (all_starts starts i m)
    ∙ ap (λ xs. (single i ∷ all_extensions g (single i) (union x starts)) ++ xs)
    (flat_map_agree (λ k. grown_from g (union x (inter starts (full (suc k)))) k) (λ k. grown_from g (union x (inter (minus starts (single i)) (full (suc k)))) k) rest
    (λ k c. ap (λ (y : ℕ). grown_from g (union x y) k) (same_starts starts i k (smaller k c))))
  where
    rest : List ℕ
    rest = filter (in_set (minus starts (single i))) (descending g.n)

    smaller : (k : ℕ) → Contains rest k → k < i
    smaller k c =
        let h : Has (minus starts (single i)) k = eqb-true _ _ (passes_from_filter (in_set (minus starts (single i))) (descending g.n) k c) in
        elim (cases_eq k i) [
          | inl e ↦ absurd (minus_right starts (single i) k h (subst (λ (r : ℕ). Has (single i) r) (sym e) (single_has i)))
          | inr ne ↦ omega (arith, m.1 k (minus_left starts (single i) k h), ne)
        ]

pub second_next : (g : JoinGraph) (old now : List ℕ) (x starts i s e rest : ℕ) → old ≡ [] → Within starts (full g.n) → IsGreatest starts i → s ≡ single i → e ≡ union x starts → rest ≡ minus starts s → now ≡ all_extensions g s e → old ++ second_sides_from g x starts ≡ s ∷ (now ++ second_sides_from g x rest)
second_next g old now x starts i s e rest eo w m es ee er en =
    ap (λ xs. xs ++ second_sides_from g x starts) eo
    ∙ second_below g x starts i (full_limit g.n i (w i m.0)) m
    ∙ ap (λ (k : ℕ). k ∷ (all_extensions g k (union x starts) ++ second_sides_from g x (minus starts k))) (sym es)
    ∙ ap (λ (k : ℕ). s ∷ (all_extensions g s k ++ second_sides_from g x (minus starts s))) (sym ee)
    ∙ ap (λ (k : ℕ). s ∷ (all_extensions g s e ++ second_sides_from g x k)) (sym er)
    ∙ ap (λ xs. s ∷ (xs ++ second_sides_from g x rest)) (sym en)

none_pass : (xs : List ℕ) → filter (in_set 0) xs ≡ []
none_pass [] = refl
none_pass (x ∷ xs) = cond-false (in_set 0 x) (x ∷ filter (in_set 0) xs) (filter (in_set 0) xs) (ne_eqb _ _ (empty_has x)) ∙ none_pass xs

second_none : (g : JoinGraph) (x : ℕ) → second_sides_from g x 0 ≡ []
unfolding second_sides_from
second_none g x = ap (flat_map (λ k. grown_from g (union x (inter 0 (full (suc k)))) k)) (none_pass (descending g.n))

pub second_end : (g : JoinGraph) (grown : List ℕ) (x starts : ℕ) → grown ≡ [] → starts ≡ 0 → grown ++ second_sides_from g x starts ≡ []
second_end g grown x starts e es = ap (λ xs. xs ++ second_sides_from g x starts) e ∙ ap (second_sides_from g x) es ∙ second_none g x

pub second_start : (g : JoinGraph) (grown : List ℕ) (a x starts : ℕ) → grown ≡ [] → x ≡ excluded a → starts ≡ neighbours_outside g a x → grown ++ second_sides_from g x starts ≡ second_sides g a
unfolding second_sides
second_start g grown a x from e ex es =
    ap (λ xs. xs ++ second_sides_from g x from) e
    ∙ ap (second_sides_from g x) es
    ∙ ap (λ (k : ℕ). second_sides_from g k (neighbours_outside g a k)) ex

pub starts_known : (g : JoinGraph) (a x starts : ℕ) → IsGraph g → starts ≡ neighbours_outside g a x → Within starts (full g.n)
starts_known g a x from ok e r h = outside_in_graph g ok a x r (subst (λ (k : ℕ). Has k r) e h)

pub greatest_room : (g : JoinGraph) (starts i : ℕ) → IsGraph g → Within starts (full g.n) → IsGreatest starts i → (i < g.n) × (i < N_MAX)
greatest_room g starts i ok w m = (full_limit g.n i (w i m.0), omega (arith, full_limit g.n i (w i m.0), ok.few))

pub rest_known : (g : JoinGraph) (starts s rest : ℕ) → Within starts (full g.n) → rest ≡ minus starts s → Within rest (full g.n)
rest_known g starts s rest w e r h = w r (minus_left starts s r (subst (λ (k : ℕ). Has k r) e h))

pub start_excluded : (x starts i s e : ℕ) → IsGreatest starts i → s ≡ single i → e ≡ union x starts → Within s e
start_excluded x starts i s e m es ee r h =
    subst (λ (k : ℕ). Has k r) (sym ee)
    (union_right x starts r (subst (Has starts) (single_one i r (subst (λ (k : ℕ). Has k r) es h)) m.0))
