-- What the neighbours of a set and the test of connectivity give.
use Rattle.std.proofs.Common.{◌≡◌, ◌≢◌, ◌↔◌, ℕ, zero, suc, ◌<◌, inl, inr, arith, refl, sym, subst, Bool, true, not, ◌&&◌, List, [], ◌∷◌, get_or, nat_eq}
use Rattle.std.specs.List.{Contains, list_all}
use Rattle.std.proofs.lemmas.Bool.{cases_eq, cond-true, cond-false, eqb-true, eqb-false, eq-eqb, ne_eqb, and_parts, and_from, or_cases, or_left, or_right, not-true, not_from_false}
use Rattle.dpe_base.specs.Sets.{Has, Within, Disjoint, Meets, IsLeast, member, union, minus, full, is_within, meets, least}
use Rattle.dpe_base.proofs.SetLaws.{sets, same_set, member-same, empty_has, union_left, union_right, union_cases, rest_apart, rest_whole, is_within_true}
use Rattle.join_graph.specs.Graphs.{JoinGraph, IsGraph, Edge, Crossed, Connected, IsNeighbours}
use Rattle.join_graph.proofs.Edges.{neighbours_from, crossed_from}
use Rattle.join_graph.proofs.GraphLaws.{crossed_more}
use Rattle.pair_stream.specs.Subsets.{subsets}
use Rattle.pair_stream.specs.Connectivity.{adjacent_if_member, adjacent_to_members, neighbours, is_connected, is_crossed_at}
use Rattle.dpe_base.proofs.Members.{contains_head, contains_tail, contains_none, contains_cases}
use Rattle.pair_stream.proofs.SubsetLaws.{subsets_has, least_is, positive}
use Rattle.dpe_base.proofs.SizeLaws.{meets_true}

-- ---- what is joined to a set

adjacent_if_member_has : (g : JoinGraph) (s r t : ℕ) → Has (adjacent_if_member g s r) t ↔ (Has s r × Edge g r t)
unfolding adjacent_if_member
adjacent_if_member_has g s r t =
    elim (cases_eq (member s r) 1) [
      | inl e ↦ (
        λ h. (e, subst (λ x. Has x t) (cond-true (nat_eq (member s r) 1) (get_or g.adjacent r 0) 0 (eq-eqb _ _ e)) h),
        λ h. subst (λ x. Has x t) (sym (cond-true (nat_eq (member s r) 1) (get_or g.adjacent r 0) 0 (eq-eqb _ _ e))) h.1,
      )
      | inr ne ↦ (
        λ h. absurd (empty_has t (subst (λ x. Has x t) (cond-false (nat_eq (member s r) 1) (get_or g.adjacent r 0) 0 (ne_eqb _ _ ne)) h)),
        λ h. absurd (ne h.0),
      )
    ]

pub adjacent_to_members_has : (g : JoinGraph) (s n t : ℕ) → Has (adjacent_to_members g s n) t ↔ ((k : ℕ) × (k < n) × Has s k × Edge g k t)
unfolding adjacent_to_members
adjacent_to_members_has g s zero t = (λ h. absurd (empty_has t h), λ k. absurd (omega (arith, k.1)))
adjacent_to_members_has g s (suc n) t = (
  λ h. elim (union_cases (adjacent_to_members g s n) (adjacent_if_member g s n) t h) [
    | inl x ↦ let k : (k : ℕ) × (k < n) × Has s k × Edge g k t = (adjacent_to_members_has g s n t).0 x in (k.0, omega (arith, k.1), k.2, k.3)
    | inr x ↦ (n, omega arith, ((adjacent_if_member_has g s n t).0 x).0, ((adjacent_if_member_has g s n t).0 x).1)
  ],
  λ k. elim (cases_eq k.0 n) [
    | inl e ↦ union_right (adjacent_to_members g s n) (adjacent_if_member g s n) t ((adjacent_if_member_has g s n t).1 (subst (Has s) e k.2, subst (λ x. Edge g x t) e k.3))
    | inr ne ↦ union_left (adjacent_to_members g s n) (adjacent_if_member g s n) t ((adjacent_to_members_has g s n t).1 (k.0, omega (arith, k.1), k.2, k.3))
  ],
)

-- what is joined to a member of s
pub adjacent_to_members_is : (g : JoinGraph) (s t : ℕ) → IsGraph g → Has (adjacent_to_members g s g.n) t ↔ ((k : ℕ) × Has s k × Edge g k t)
adjacent_to_members_is g s t ok = (
  λ h. (((adjacent_to_members_has g s g.n t).0 h).0, ((adjacent_to_members_has g s g.n t).0 h).2, ((adjacent_to_members_has g s g.n t).0 h).3),
  λ k. (adjacent_to_members_has g s g.n t).1 (k.0, (ok.known k.0 t k.2).0, k.1, k.2),
)

pub neighbours_is : (g : JoinGraph) (s : ℕ) → IsGraph g → IsNeighbours g s (neighbours g s)
unfolding neighbours
neighbours_is g s ok = neighbours_from g s (adjacent_to_members g s g.n) (λ t. adjacent_to_members_is g s t ok)

-- the neighbours are one set
pub neighbours_one : (g : JoinGraph) (s t : ℕ) → IsGraph g → IsNeighbours g s t → t ≡ neighbours g s
neighbours_one g s t ok h =
    same_set _ _ (λ r. both r (λ x. (neighbours_is g s ok r).1 ((h r).0 x)) (λ x. (h r).1 ((neighbours_is g s ok r).0 x)))
  where
    both : (r : ℕ) → (Has t r → Has (neighbours g s) r) → (Has (neighbours g s) r → Has t r) → member t r ≡ member (neighbours g s) r
    both r f b = grind (arith, sets)

-- ---- connected sets by their splits

pub connected_least : (g : JoinGraph) (s : ℕ) → IsGraph g → Connected g s → IsLeast s (least s)
connected_least g s ok c = least_is s g.n c.within ok.few c.some

list_all_at : {X : Type 0} (p : X → Bool) (xs : List X) (x : X) → list_all p xs ≡ true → Contains xs x → p x ≡ true
list_all_at p [] x t c = absurd (contains_none x c)
list_all_at p (y ∷ ys) x t c =
    elim (contains_cases y ys x c) [
      | inl e ↦ subst (λ k. p k ≡ true) e (and_parts (p y) (list_all p ys) t).0
      | inr d ↦ list_all_at p ys x (and_parts (p y) (list_all p ys) t).1 d
    ]

list_all_from : {X : Type 0} (p : X → Bool) (xs : List X) → ((x : X) → Contains xs x → p x ≡ true) → list_all p xs ≡ true
list_all_from p [] h = refl
list_all_from p (y ∷ ys) h =
    and_from (p y) (list_all p ys) (h y (contains_head y ys)) (list_all_from p ys (λ x c. h x (contains_tail y ys x c)))

pub joined_true : (g : JoinGraph) (a b : ℕ) → IsGraph g → (meets (adjacent_to_members g a g.n) b ≡ true) ↔ Crossed g a b
joined_true g a b ok =
    let both : Meets (adjacent_to_members g a g.n) b ↔ Crossed g a b = crossed_from g a b (adjacent_to_members g a g.n) ok (λ t. adjacent_to_members_is g a t ok) in (
      λ t. both.0 ((meets_true (adjacent_to_members g a g.n) b).0 t),
      λ c. (meets_true (adjacent_to_members g a g.n) b).1 (both.1 c),
    )

split_crossed : (g : JoinGraph) (s a b : ℕ) → IsGraph g → is_crossed_at g s a ≡ true → b ≢ 0 → Disjoint a b → union a b ≡ s → Crossed g a b
split_crossed g s a b ok t nb d u =
    elim (or_cases (nat_eq a s) (meets (adjacent_to_members g a g.n) (minus s a)) t) [
      | inl e ↦ absurd (nb (none (eqb-true a s e)))
      | inr m ↦ crossed_more g a (minus s a) a b (λ r h. h) (λ r h. in_b r h) ((joined_true g a (minus s a) ok).0 m)
    ]
  where
    none : a ≡ s → b ≡ 0
    none e = same_set _ _ (λ r. grind (arith, sets, member-same u r, member-same e r))

    in_b : (r : ℕ) → Has (minus s a) r → Has b r
    in_b r h = grind (arith, sets, member-same u r)

split_from : (g : JoinGraph) (s a : ℕ) → IsGraph g → Connected g s → 0 < a → Within a s → is_crossed_at g s a ≡ true
split_from g s a ok c l w =
    elim (cases_eq a s) [
      | inl e ↦ or_left (nat_eq a s) (meets (adjacent_to_members g a g.n) (minus s a)) (eq-eqb a s e)
      | inr ne ↦
          or_right (nat_eq a s) (meets (adjacent_to_members g a g.n) (minus s a))
          ((joined_true g a (minus s a) ok).1 (c.split a (minus s a) (λ e. omega (arith, e)) (λ e. ne (all e)) (rest_apart s a) (rest_whole s a w)))
    ]
  where
    all : minus s a ≡ 0 → a ≡ s
    all e = same_set _ _ (λ r. grind (arith, sets, member-same e r))

pub is_connected_true : (g : JoinGraph) (s : ℕ) → IsGraph g → (is_connected g s ≡ true) ↔ Connected g s
unfolding is_connected
is_connected_true g s ok = (
  λ t.
      let first = and_parts (not (nat_eq s 0)) (is_within s (full g.n) && list_all (is_crossed_at g s) (subsets s)) t in
      let second = and_parts (is_within s (full g.n)) (list_all (is_crossed_at g s) (subsets s)) first.1 in
      record {
        some = eqb-false s 0 (not-true _ first.0);
        within = (is_within_true s (full g.n)).0 second.0;
        split = λ a b na nb d u.
            split_crossed g s a b ok
            (list_all_at (is_crossed_at g s) (subsets s) a second.1 ((subsets_has 0 s a).1 (positive a na, λ r h. inside a b u r h))) nb d u;
      },
  λ c.
      and_from (not (nat_eq s 0)) (is_within s (full g.n) && list_all (is_crossed_at g s) (subsets s)) (not_from_false _ (ne_eqb s 0 c.some))
      (and_from (is_within s (full g.n)) (list_all (is_crossed_at g s) (subsets s)) ((is_within_true s (full g.n)).1 c.within)
      (list_all_from (is_crossed_at g s) (subsets s)
      (λ a m. split_from g s a ok c ((subsets_has 0 s a).0 m).0 ((subsets_has 0 s a).0 m).1))),
)
  where
    inside : (a b : ℕ) → union a b ≡ s → (r : ℕ) → Has a r → Has s r
    inside a b u r h = grind (arith, sets, member-same u r)
